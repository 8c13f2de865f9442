-- Request 2: a token whose text starts with `&` means nothing, like SP. "Demand 3 stands since saved texts hold no such token": no text
-- that READ or RUN saves holds one. And "taking them out doesn't change the plan": without its marks, a text that reads gets the same
-- answer, and its output gets the same bytes.
use Prim.Native.Nat.{ℕ}
use mathlib.Core.Path.{◌≡◌, ap, sym, subst, ◌∙◌}
use mathlib.Core.List.{List}
use Rattle.kinds.specs.Limits.{cell_limit, standard}
use Rattle.plan.specs.Pieces.{placed}
use Rattle.plan.specs.Reading.{HoldsAnnotation, OUTSIDE, without_marks}
use Rattle.plan.specs.Outcomes.{Wrote}
use Rattle.plan.specs.Read.{ReadAnswer, read_family}
use Rattle.plan.proofs.Outcomes.{wrote_once}
use Rattle.numbers.specs.Numbers.{read_numbers}
use Rattle.answers.specs.Run.{RunAnswer, run_family, run_numbers, run_outcome}
use Rattle.plan.proofs.Annotations.{accept-without_marks, reads_without_marks}
use Rattle.answers.proofs.Runs.{runs_without_marks}
use Rattle.plan.proofs.ReadBack.{bare-placed}
use Rattle.plan.proofs.Accepting.{standard_roomy}
use Rattle.read.specs.Calls.{ReadsOut}
use Rattle.run.specs.Calls.{Runs}
use Rattle.demands.specs.Terms.{Bare, Reads, Unrefused, lent, saved}
use Rattle.demands.proofs.Cases.{ended-saved, read-saved, run_ended, text-read}
use Rattle.demands.proofs.Meanings.{ends_sound, reads_one, reads_sound, sound_unannotated}

-- no saved text holds an annotation
-- a theorem of annotations
pub read_unannotated : {text out : List ℕ} {r : ReadAnswer} {out' : List ℕ} → ReadsOut text out r out' → Unrefused (read_numbers r) → HoldsAnnotation (saved (read_numbers r) out') → ⊥
read_unannotated call unrefused =
    let x = text-read call unrefused in subst (λ t. HoldsAnnotation t → ⊥) (sym (read-saved x)) (sound_unannotated (reads_sound x.reads))

-- a theorem of annotations
pub run_unannotated : {text : List ℕ} {quota : ℕ} {memory out : List ℕ} {r : RunAnswer} {memory' out' : List ℕ}
    → Runs text quota memory out r memory' out' → Unrefused (run_numbers r) → HoldsAnnotation (saved (run_numbers r) out') → ⊥
run_unannotated call unrefused =
    let run = run_ended call unrefused in
    subst (λ t. HoldsAnnotation t → ⊥) (sym (ended-saved run)) (sound_unannotated (ends_sound run.ends))

-- a text reads without its marks as the same plan
-- a theorem of annotations
pub without_marks_reads : {n : ℕ} {text : List ℕ} {p : Bare} → Reads n text p → Reads n (without_marks OUTSIDE text) p
without_marks_reads {n} {text} g =
    record {
      within = g.within;
      placed = placed 0 g.placed;
      accepted = accept-without_marks standard standard_roomy n g.within text g.accepted;
      same = bare-placed 0 g.placed ∙ g.same;
    }

-- and texts that are the same except for marks read, where both do, as one plan
-- a theorem of annotations
pub same_except_marks : {n : ℕ} {text text₂ : List ℕ} {p q : Bare} → Reads n text p → Reads n text₂ q
    → without_marks OUTSIDE text ≡ without_marks OUTSIDE text₂ → p ≡ q
same_except_marks {n} {p = p} g h e = reads_one (subst (λ t. Reads n t p) e (without_marks_reads g)) (without_marks_reads h)

-- so every service answers and leaves the same
-- a theorem of annotations
pub read-without_marks : {text out : List ℕ} {r s : ReadAnswer} {a b : List ℕ} {p : Bare} → ReadsOut text out r a → ReadsOut (without_marks OUTSIDE text) out s b
    → Reads cell_limit text p → (s ≡ r) × (b ≡ a)
read-without_marks {text} {out} {s = s} {b = b} call bare g =
    wrote_once read_family
    (subst (λ o. Wrote read_family o out s b) (reads_without_marks standard standard_roomy text g.accepted) bare.wrote) call.wrote

-- a theorem of annotations
pub run_without_marks : {text : List ℕ} {quota : ℕ} {memory memory₂ out : List ℕ} {r s : RunAnswer} {memory' memory₂' a b : List ℕ} {p : Bare}
    → Runs text quota memory out r memory' a → Runs (without_marks OUTSIDE text) quota memory₂ out s memory₂' b → lent memory₂ ≡ lent memory
    → Reads (lent memory) text p → (s ≡ r) × (b ≡ a)
run_without_marks {text} {quota} {memory} {memory₂} {out} {s = s} {b = b} call bare lent_same g =
    let same = ap (λ n. run_outcome standard n quota (without_marks OUTSIDE text)) lent_same
    ∙ runs_without_marks standard standard_roomy (lent memory) quota g.within text g.accepted in
    wrote_once run_family (subst (λ o. Wrote run_family o out s b) same bare.wrote) call.wrote
