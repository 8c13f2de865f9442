-- Request 1: "All above the token reader pass this on." LINK tells what is wrong with the plan text, a token's fault too, with
-- the number and the place that READ tells.
use Prim.Native.Nat.{ℕ}
use mathlib.Core.Path.{◌≡◌, refl, subst}
use mathlib.Core.Logic.{◌↔◌}
use mathlib.Core.List.{List}
use Rattle.plan.specs.Read.{ReadAnswer}
use Rattle.kinds.specs.Limits.{cell_limit, standard}
use Rattle.plan.specs.declared.TextFault.{TextFault}
use Rattle.plan.specs.declared.Unread.{Unread}
use Rattle.plan.specs.declared.Unread.TheVariants.{Text}
use Rattle.plan.specs.Refusals.{Unreadable, bad_text, faulty, overfull, too_long}
use Rattle.kinds.proofs.Tests.{never}
use Rattle.numbers.specs.Numbers.{fault_numbers, read_numbers}
use Rattle.words_meaning.specs.Answers.{link_numbers, LinkAnswer}
use Rattle.words_meaning.specs.Linking.{Word}
use Rattle.read.specs.Calls.{ReadsOut}
use Rattle.words_link.specs.Calls.{Links}
use Rattle.demands.proofs.PassedOn.{text-fault_told}
use Rattle.words_theorems.specs.Lists.{HasWords}
use Rattle.words_theorems.specs.Table.{HasFault, row_11, rows_13_to_16}
use Rattle.words_theorems.proofs.Refused.{fault_exactly_when}

fault_unreadable : {text : List ℕ} {f : TextFault} → HasFault text f → Unreadable standard cell_limit text (Text f)
fault_unreadable (row_11 long) = too_long long
fault_unreadable (rows_13_to_16 short bad) = bad_text short (faulty bad)

unreadable_fault : {text : List ℕ} {u : Unread} {f : TextFault} → Unreadable standard cell_limit text u → u ≡ Text f → HasFault text f
unreadable_fault {text} {f = f} (too_long long) e = subst (HasFault text) (let is : _ ≡ f = cc in is) (row_11 long)
unreadable_fault {text} {f = f} (bad_text short (faulty bad)) e = subst (HasFault text) (let is : _ ≡ f = cc in is) (rows_13_to_16 short bad)
unreadable_fault (bad_text short (overfull before rest b split clean begins whole)) e = never cc

-- a theorem of tokens' faults
pub link_passes_on : {list text out out₂ : List ℕ} {c : ReadAnswer} {r : LinkAnswer} {out' out₂' : List ℕ} {ws : List Word} → ReadsOut text out₂ c out₂'
    → Links list text out r out' → HasWords list ws → (f : TextFault) → (read_numbers c ≡ fault_numbers f) ↔ (link_numbers r ≡ fault_numbers f)
link_passes_on read links has f = (
  λ told. (fault_exactly_when links has f).0 (unreadable_fault ((text-fault_told read f).1 told) refl),
  λ told. (text-fault_told read f).0 (fault_unreadable ((fault_exactly_when links has f).1 told)),
)
