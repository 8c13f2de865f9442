-- Reading by computing: one small text that is read, refused and answered. Whoever computes a reading elsewhere writes `unfolding reading`, or
-- `unfolding read_answer`, which opens every word named here: none of them is named again.
use mathlib.Core.Path.{◌≡◌, refl}
use mathlib.Core.Bool.{true}
use mathlib.Core.List.{List, [], ◌∷◌}
use Prim.Native.Nat.{ℕ}
use Rattle.kinds.specs.Limits.{standard, token_limit}
use Rattle.plan.specs.declared.Unread.TheVariants.{Overfull}
use Rattle.std.specs.Prelude.{Ok}
use Rattle.plan.specs.Options.{under}
use Rattle.plan.specs.Outcomes.{cleared, is_given, write}
use Rattle.plan.specs.Plan.{end, token, ◌then◌, cells, labels, letter, print}
use Rattle.plan.specs.Read.{acceptable, as_read, read_family, read_outcome, sized}
use Rattle.plan.specs.Reading.{ACCEPTED, UNREAD, accept, class, fit, go_on, mark, move, after_token, place, plan_in, plan_of, read, read_from, read_text}
use Rattle.plan.specs.Token.{all_permitted, allowed, annotation, before_brace, character, follows, if_allowed, may_hold, permits, scalar, token_text, value, well_formed}
use Rattle.plan.specs.TokenFaults.{first_fault, meet, unheld}

-- `{x}`
abbrev text : List ℕ
text = 0x7B ∷ 0x78 ∷ 0x7D ∷ []

unfoldable pub reading : (accept standard 1 text ≡ ACCEPTED (token 0 (0x78 ∷ []) end)) × (read token_limit 0 text ≡ UNREAD (Overfull (place 0)))
unfolding accept read_text read read_from go_on move after_token first_fault meet unheld mark annotation fit class token_text if_allowed before_brace allowed all_permitted permits may_hold character value follows scalar well_formed cells labels print letter ◌then◌ under
reading = (refl, refl)

unfoldable pub read_answer : (acceptable standard text ≡ true) × ((write read_family (read_outcome standard text) text).answer ≡ Ok (sized 1 3)) × (print (plan_of token_limit text) ≡ text)
unfolding reading acceptable is_given read_outcome as_read write cleared plan_of plan_in
read_answer = (refl, refl, refl)
