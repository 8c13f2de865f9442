-- What LINK tells of a linked text is never longer than the output that was lent.
use Prim.Native.Nat.{ℕ, ◌≤◌}
use mathlib.Core.Path.{◌≡◌, refl}
use mathlib.Core.List.{List}
use lib.ListN.{length}
use Rattle.plan.specs.Outcomes.{Outcome, Wrote}
use Rattle.numbers.proofs.Fits.{printed-fits}
use Rattle.words_meaning.specs.Answers.{LinkAnswer, link_family, link_numbers, link_refusal_numbers}
use Rattle.words_meaning.specs.declared.LinkRefusal.{LinkRefusal}
use Rattle.words_meaning.specs.declared.LinkRefusal.TheVariants.{BadWords, Text, Overfull, OutShort}

no_length : (x : LinkRefusal) → (link_refusal_numbers x).length ≡ 0
no_length (BadWords rank) = refl
no_length (Text f) = refl
no_length Overfull = refl
no_length (OutShort needed) = refl

pub link_fits : {o : Outcome LinkRefusal (Unit {0})} {out : List ℕ} {r : LinkAnswer} {out' : List ℕ} → Wrote link_family o out r out'
    → (link_numbers r).length ≤ length out
link_fits call = printed-fits link_family link_numbers no_length (λ u cells long. refl) call
