-- Words that fit by themselves: how the code checks one, what one that fits has, and how a row of them is read.
use Prim.Native.Nat.{ℕ, zero, suc, ◌-◌, ◌≤◌}
use mathlib.Core.Path.{◌≡◌, refl, ap, ap₂, sym, ◌∙◌}
use mathlib.Core.Bool.{Bool, true, false, cond, not, ◌&&◌, and-false}
use mathlib.Core.List.{List, ◌∷◌}
use native.Mathlib.Omega.{arith}
use borrow.Author.Tests.{eqb-false, eqb-true, not-true}
use lib.Dec.{eqb}
use lib.ListN.{length, drop}
use lib.Seq.{drop-cons, drop-length}
use Rattle.kinds.specs.Limits.{Limits, standard}
use Rattle.std.specs.Prelude.{Some}
use Rattle.plan.specs.Read.{acceptable}
use Rattle.plan.specs.Reading.{read_text}
use Rattle.plan.proofs.Acceptable.{acceptable_plan}
use Rattle.plan.proofs.Accepting.{text_short}
use Rattle.kinds.proofs.Tests.{and_true}
use Rattle.stored.specs.Counted.{AtFront, CUT, FRONT}
use Rattle.stored.specs.Places.{two_counted_at}
use Rattle.stored.specs.Spans.{part}
use Rattle.stored.specs.declared.Span.{Span}
use Rattle.stored.proofs.Pairs.{two_counted_found}
use Rattle.words_meaning.specs.Linking.{Word, listed, percent, stock_token}
use Rattle.words_meaning.specs.Stock.{fits, is_name, word}
use Rattle.words_meaning.proofs.Word.{word_found}
use Rattle.words_shelf.specs.Words.{is_plan}
use Rattle.words_check.specs.Checking.{FitThere, Fitting, fit_front, fitting, is_new_name, next_fitting}

-- One word, checked by itself.

module _ (list : List ℕ) (older : List Word) (at : ℕ) where
  -- a word that is cut does not fit
  pub unfit_cut : word (drop at list) ≡ CUT → fit_front standard older (word (drop at list)) ≡ false
  unfolding fit_front
  unfit_cut e = ap (fit_front standard older) e

  -- its name and its text are whole
  module _ {name text : Span} (found : two_counted_at list at ≡ Some (name, text)) where
    -- a word fits when its name is new and its text acceptable
    fit_parts : fit_front standard older (word (drop at list)) ≡ (is_new_name older (part list name) && acceptable standard (part list text))
    unfolding fit_front fits is_name
    fit_parts =
        ap (fit_front standard older) (word_found list at found)
        ∙ moved (is_name standard (part list name)) (not (listed (percent ∷ part list name) older)) (acceptable standard (part list text))
      where
        moved : (a b c : Bool) → (a && (b && c)) ≡ ((a && b) && c)
        moved true b c = refl
        moved false b c = refl

    -- what was found of the name
    module _ {r : Bool} (new : r ≡ is_new_name older (part list name)) where
      -- it is not a new name
      pub unfit_name : r ≡ false → fit_front standard older (word (drop at list)) ≡ false
      unfit_name e = fit_parts ∙ ap (◌&& acceptable standard (part list text)) (sym new ∙ e)

      -- the text is not acceptable
      pub unfit_text : {q : Bool} → q ≡ acceptable standard (part list text) → q ≡ false → fit_front standard older (word (drop at list)) ≡ false
      unfit_text read_as e =
          fit_parts ∙ ap (is_new_name older (part list name) &&◌) (sym read_as ∙ e)
          ∙ and-false (is_new_name older (part list name))

      -- both are right
      pub fit-there : r ≡ true → {q : Bool} → q ≡ acceptable standard (part list text) → q ≡ true → FitThere list older at (record { name = name; text = text })
      unfolding fit_front
      fit-there e read_as h =
          record {
            there = word_found list at found;
            fit = sym (ap (fit_front standard older) (word_found list at found)) ∙ fit_parts ∙ ap₂ ◌&&◌ (sym new ∙ e) (sym read_as ∙ h);
            stand = two_counted_found list at found;
          }

-- A word that fits, part by part.

pub record FitWord (older : List Word) (w : Word) : Type 0 where
  pub new : listed (stock_token w) older ≡ false
  pub reads : is_plan (read_text standard w.text) ≡ true

-- a word that passes all the tests passes each
pub fit_word : (older : List Word) (w : Word) → fits standard older w ≡ true → FitWord older w
unfolding fits is_plan
fit_word older w e =
    let more = (and_true (is_name standard w.name) (not (listed (stock_token w) older) && acceptable standard w.text) e).1 in
    let (new, read) = and_true (not (listed (stock_token w) older)) (acceptable standard w.text) more in
    let t = acceptable_plan standard w.text read in
    record { new = not-true (listed (stock_token w) older) new; reads = ap is_plan (text_short standard w.text t.short ∙ t.reads) }

-- Reading words that fit.

module _ (lim : Limits) (older : List Word) where
  -- one that does not ends them
  pub stops : (x : AtFront Word) (later : Word → List ℕ → Fitting) → fit_front lim older x ≡ false
      → next_fitting lim older x later ≡ record { words = older; whole = false }
  unfolding next_fitting fit_front
  stops CUT later e = refl
  stops (FRONT w rest) later e = rw e refl

  -- so many words to come: the first decides how it goes on
  pub next_word : (more : ℕ) (bs : List ℕ) → 1 ≤ more
      → fitting lim more older bs ≡ next_fitting lim older (word bs) (λ w rest. fitting lim (more - 1) (w ∷ older) rest)
  unfolding fitting
  next_word zero bs h = absurd (omega arith)
  next_word (suc more) bs h = ap (λ k. next_fitting lim older (word bs) (λ w rest. fitting lim k (w ∷ older) rest)) (let z : more ≡ suc more - 1 = omega arith in z)

  -- one that fits goes before the rest
  pub goes_on : (more : ℕ) (bs : List ℕ) → 1 ≤ more → {w : Word} {rest : List ℕ} → word bs ≡ FRONT w rest → fits lim older w ≡ true
      → fitting lim more older bs ≡ fitting lim (more - 1) (w ∷ older) rest
  unfolding next_fitting
  goes_on more bs h {w} {rest} there fit =
      next_word more bs h ∙ ap (λ x. next_fitting lim older x (λ v later. fitting lim (more - 1) (v ∷ older) later)) there
      ∙ ap (λ b. cond b (fitting lim (more - 1) (w ∷ older) rest) (record { words = older; whole = false })) fit

  -- no word more: they are whole if no byte is behind them
  pub at_end : (list : List ℕ) (at : ℕ) → at ≤ length list → fitting lim 0 older (drop at list) ≡ record { words = older; whole = eqb at (length list) }
  unfolding fitting
  at_end list at h = go (eqb at (length list)) refl
    where
      go : (b : Bool) → eqb at (length list) ≡ b → fitting lim 0 older (drop at list) ≡ record { words = older; whole = b }
      go true e = ap (fitting lim 0 older) (ap (λ k. drop k list) (eqb-true at (length list) e) ∙ drop-length list)
      go false e = ap (fitting lim 0 older) (drop-cons list at 0 (omega (arith, eqb-false at (length list) e)))
