-- Request 1: "All above the token reader pass this on." READ and RUN tell what is wrong with a text, a token's fault too, with the same
-- number and place. They do so whatever the output, and however many cells are lent, within the limit.
use Prim.Native.Nat.{ℕ, ◌≤◌}
use mathlib.Core.Path.{◌≡◌, refl, subst}
use mathlib.Core.Logic.{◌↔◌}
use mathlib.Core.List.{List}
use Rattle.kinds.specs.Limits.{cell_limit, standard}
use Rattle.plan.specs.declared.ReadRefusal.{ReadRefusal}
use Rattle.plan.specs.declared.ReadRefusal.TheVariants.{NotRead}
use Rattle.plan.specs.declared.TextFault.{TextFault}
use Rattle.plan.specs.declared.Unread.{Unread}
use Rattle.plan.specs.declared.Unread.TheVariants.{Text}
use Rattle.plan.specs.Refusals.{Row, Unreadable, bad_text as bad_row, faulty, overfull, too_long}
use Rattle.kinds.proofs.Tests.{never}
use Rattle.plan.specs.Read.{ReadAnswer}
use Rattle.numbers.specs.Numbers.{fault_numbers, read_numbers, unread_numbers}
use Rattle.answers.specs.declared.RunRefusal.{RunRefusal}
use Rattle.answers.specs.declared.RunRefusal.TheVariants.{NotRead as RunNotRead}
use Rattle.answers.specs.Run.{Refuses, RunAnswer, bad_arena, run_numbers, text_refused, text_too_long as run_too_long}
use Rattle.read.specs.Calls.{ReadsOut}
use Rattle.run.specs.Calls.{Runs}
use Rattle.demands.specs.Table.{ReadRefuses, RunRefuses, row_18, rows_11_to_17}
use Rattle.demands.specs.Terms.{lent}
use Rattle.demands.proofs.Answered.{read-refused, run_refused}

-- the rows of a text's faults do not look at the cells lent
same_row : {limit n : ℕ} {text : List ℕ} {u : Unread} {f : TextFault} (m : ℕ) → Row limit n text u → u ≡ Text f → Row limit m text (Text f)
same_row {limit} {text = text} m (faulty wrong) e = subst (Row limit m text) e (faulty wrong)
same_row m (overfull before rest b split clean begins whole) e = never cc

-- READ's row of a fault is RUN's, where so many cells may be lent
read-fault_run : {m : ℕ} {text : List ℕ} {u : Unread} {f : TextFault} → m ≤ cell_limit → Unreadable standard cell_limit text u → u ≡ Text f
    → Refuses standard m text (RunNotRead (Text f))
read-fault_run {m} {text} few (too_long long) e = subst (λ v. Refuses standard m text (RunNotRead v)) e (run_too_long long)
read-fault_run {m} few (bad_row short row) e = text_refused short few (same_row m row e)

run_fault-read : {m : ℕ} {text : List ℕ} {x : RunRefusal} {f : TextFault} → Refuses standard m text x → x ≡ RunNotRead (Text f)
    → Unreadable standard cell_limit text (Text f)
run_fault-read {text = text} {f = f} (run_too_long long) e =
    subst (Unreadable standard cell_limit text) (let same : Text _ ≡ Text f = cc in same) (too_long long)
run_fault-read (bad_arena short many) e = never cc
run_fault-read {f = f} (text_refused {u} short few row) e = bad_row short (same_row cell_limit row (let same : u ≡ Text f = cc in same))

-- READ tells what is wrong with a text as the table says, whatever the output
pub refused_by_its_text : {text out : List ℕ} {r : ReadAnswer} {out' : List ℕ} → ReadsOut text out r out' → (u : Unread)
    → Unreadable standard cell_limit text u ↔ (read_numbers r ≡ unread_numbers u)
refused_by_its_text {text} {out} call u = (
  λ row. (read-refused call (NotRead u)).0 (rows_11_to_17 row),
  λ told. go ((read-refused call (NotRead u)).1 told) refl,
)
  where
    go : {x : ReadRefusal} → ReadRefuses text out x → x ≡ NotRead u → Unreadable standard cell_limit text u
    go (rows_11_to_17 {u = v} row) e = subst (Unreadable standard cell_limit text) (let same : v ≡ u = cc in same) row
    go (row_18 reads short) e = never cc

pub text-fault_told : {text out : List ℕ} {r : ReadAnswer} {out' : List ℕ} → ReadsOut text out r out' → (f : TextFault)
    → Unreadable standard cell_limit text (Text f) ↔ (read_numbers r ≡ fault_numbers f)
text-fault_told call f = refused_by_its_text call (Text f)

-- a theorem of tokens' faults
pub run_passes_on : {text : List ℕ} {quota : ℕ} {memory out out₂ : List ℕ} {c : ReadAnswer} {r : RunAnswer} {memory' out' out₂' : List ℕ}
    → ReadsOut text out₂ c out₂' → Runs text quota memory out r memory' out' → lent memory ≤ cell_limit
    → (f : TextFault) → (read_numbers c ≡ fault_numbers f) ↔ (run_numbers r ≡ fault_numbers f)
run_passes_on {text} {quota} {memory} {out} read run few f = (
  λ told. (run_refused run (RunNotRead (Text f))).0 (rows_11_to_17 (read-fault_run few ((text-fault_told read f).1 told) refl)),
  λ told. (text-fault_told read f).0 (go ((run_refused run (RunNotRead (Text f))).1 told) refl),
)
  where
    go : {x : RunRefusal} → RunRefuses (lent memory) quota text out x → x ≡ RunNotRead (Text f) → Unreadable standard cell_limit text (Text f)
    go (rows_11_to_17 row) e = run_fault-read row e
    go (row_18 ends short) e = never cc
