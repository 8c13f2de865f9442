-- Where a token ends: the first `}` behind its `{`, which stands right behind its text.
use Prim.Native.Nat.{ℕ, suc, ◌+◌, ◌-◌, ◌≤◌, ◌<◌}
use mathlib.Core.Path.{◌≡◌, refl, ap, ◌∙◌}
use mathlib.Core.List.{List, [], ◌∷◌, ◌++◌}
use native.Mathlib.Omega.{arith}
use borrow.Author.Tests.{le-leb, ne_eqb}
use native.Mathlib.Numerals.{one-add}
use lib.ListN.{length, take, drop, length-append, length-drop}
use Rattle.std.proofs.lemmas.List.{take_rest}
use Rattle.std.specs.Prelude.{Some, ◌==◌, position}
use Rattle.std.specs.List.{position_or_len}
use Rattle.kinds.specs.Limits.{token_limit}
use Rattle.plan.specs.Plan.{close_brace}
use Rattle.plan.specs.Pieces.{Found}
use Rattle.plan.proofs.Tokens.{NoBrace, allowed_no_brace}

past_text : (t rest : List ℕ) → NoBrace t → position_or_len (λ b. b == close_brace) (t ++ close_brace ∷ rest) ≡ length t
past_text [] rest h = refl
past_text (b ∷ bs) rest h = rw (ne_eqb b close_brace h.0, past_text bs rest h.1) (one-add (length bs))

module _ (text : List ℕ) (from : ℕ) {t : List ℕ} (f : Found token_limit (drop from text) t) where
  pub brace_inside : from + length t < length text
  brace_inside = omega (arith, ap length f.splits, length-append t (close_brace ∷ f.rest), length-drop from text)

  pub brace_found : position (λ b. b == close_brace) (take (length text - from) (drop from text)) ≡ Some (length t)
  brace_found =
      let past : position_or_len (λ b. b == close_brace) (drop from text) ≡ length t =
      ap (position_or_len (λ b. b == close_brace)) f.splits ∙ past_text t f.rest (allowed_no_brace token_limit t f.fine) in
      let inside : suc (length t) ≤ length (drop from text) = omega (arith, brace_inside, length-drop from text) in
      rw (take_rest text from, past, le-leb (suc (length t)) (length (drop from text)) inside) refl
