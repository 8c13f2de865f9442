-- What may be added, told a second time. A FILED: exactly where no DONE of its job is among the entries, and so also where its job is
-- filed already. A DONE: exactly where its job stands filed, and the text of its last FILED is finished.
use Prim.Native.Nat.{ℕ}
use mathlib.Core.Path.{◌≡◌, refl, ap, sym, ◌∙◌}
use mathlib.Core.Logic.{◌↔◌, ◌≢◌}
use mathlib.Core.Bool.{Bool, true, false, cond}
use Rattle.std.specs.Prelude.{Option, None, Some}
use mathlib.Core.List.{List, [], ◌∷◌, reverse, reverse_aux}
use Rattle.kinds.specs.Limits.{Limits}
use Rattle.kinds.proofs.Tests.{never}
use Rattle.stored.specs.Same.{same}
use Rattle.stored.proofs.Same.{same_equal, same_self}
use Rattle.roll_format.specs.Format.{DONE, Entry, EntrySays, FILED, NEITHER, says}
use Rattle.roll_rules.specs.Rules.{DONE_AT, FILED_AT, JobStanding, UNFILED, after_done, broken, fault, fault_of, is_finished, is_job, is_printed, newest, standing, unfinished}
use Rattle.roll_rules.specs.declared.RollRefusal.{RollRefusal}
use Rattle.roll_rules.specs.declared.RollRefusal.TheVariants.{AlreadyDone}
use Rattle.roll_rules.proofs.Rules.{done_fine, filed_fine, finished_when_fine, first_fine, said_fine}

module _ (lim : Limits) (job : List ℕ) where
  -- no entry is a DONE of the job
  abbrev pub NoneDone : List Entry → Type 0
  NoneDone [] = Unit {0}
  NoneDone (e ∷ es) = (says e.parts ≢ DONE job) × NoneDone es

  none_done_turned : (es earlier : List Entry) → NoneDone es → NoneDone earlier → NoneDone (reverse_aux es earlier)
  none_done_turned [] earlier h p = p
  none_done_turned (e ∷ es) earlier (one, more) p = none_done_turned es (e ∷ earlier) more (one, p)

  -- where there is none, the job does not stand done
  not-standing-done : (earlier : List Entry) {place : ℕ} → NoneDone earlier → standing job earlier ≢ DONE_AT place
  unfolding standing newest
  not-standing-done [] h e = never cc
  not-standing-done (f ∷ earlier) {place} (one, more) e = go (not-standing-done earlier more) (says f.parts) refl e
    where
      by_filed : standing job earlier ≢ DONE_AT place → (b : Bool) (t : List ℕ) → cond b (FILED_AT f.place t) (standing job earlier) ≡ DONE_AT place → ⊥
      by_filed older true t e = never cc
      by_filed older false t e = older e

      by_done : standing job earlier ≢ DONE_AT place → (j : List ℕ) → says f.parts ≡ DONE j → (b : Bool) → same j job ≡ b → cond b (DONE_AT f.place) (standing job earlier) ≡ DONE_AT place → ⊥
      by_done older j said true is e = one (said ∙ ap DONE (same_equal j job is))
      by_done older j said false is e = older e

      go : standing job earlier ≢ DONE_AT place → (s : EntrySays) → says f.parts ≡ s → newest job f.place s (standing job earlier) ≡ DONE_AT place → ⊥
      go older (FILED j t) said e = by_filed older (same j job) t e
      go older (DONE j) said e = by_done older j said (same j job) refl e
      go older NEITHER said e = older e

  -- where one stands, the job stands done behind all entries that obey the rules
  still_done : (earlier : List Entry) (f : Entry) {place : ℕ} → fault lim earlier f ≡ None → standing job earlier ≡ DONE_AT place → standing job (f ∷ earlier) ≡ DONE_AT place
  unfolding standing newest after_done unfinished
  still_done earlier f {place} fine stands = go (says f.parts) (said_fine lim earlier f fine refl)
    where
      by : (j : List ℕ) (wrong : JobStanding → Option RollRefusal) → wrong (DONE_AT place) ≡ Some (AlreadyDone place) → wrong (standing j earlier) ≡ None → (now : JobStanding) → (b : Bool)
          → same j job ≡ b → cond b now (standing job earlier) ≡ DONE_AT place
      by j wrong after may now false so = stands
      by j wrong after may now true so =
          let clash : Some (AlreadyDone place) ≡ None = sym after ∙ ap wrong (sym stands ∙ ap (λ k. standing k earlier) (sym (same_equal j job so))) ∙ may in never cc

      go : (s : EntrySays) → fault_of lim earlier f.place s ≡ None → newest job f.place s (standing job earlier) ≡ DONE_AT place
      go (FILED j t) h = by j after_done refl (filed_fine lim earlier f.place j t h).2 (FILED_AT f.place t) (same j job) refl
      go (DONE j) h = by j (unfinished lim) refl (done_fine lim earlier f.place j h).1 (DONE_AT f.place) (same j job) refl
      go NEITHER h = stands

  stays_done : (earlier es : List Entry) {place : ℕ} → broken lim earlier es ≡ None → standing job earlier ≡ DONE_AT place → standing job (reverse_aux es earlier) ≡ DONE_AT place
  stays_done earlier [] h stands = stands
  stays_done earlier (f ∷ es) h stands = let (fine, more) = first_fine lim earlier f es h in stays_done (f ∷ earlier) es more (still_done earlier f fine stands)

  none_is_done : (earlier es : List Entry) → broken lim earlier es ≡ None → after_done (standing job (reverse_aux es earlier)) ≡ None → NoneDone es
  unfolding standing newest after_done
  none_is_done earlier [] h may = tt
  none_is_done earlier (f ∷ es) h may =
      let (fine, more) = first_fine lim earlier f es h in (
        λ said.
            let now : standing job (f ∷ earlier) ≡ DONE_AT f.place =
            ap (λ s. newest job f.place s (standing job earlier)) said ∙ ap (λ (b : Bool). cond b (DONE_AT f.place) (standing job earlier)) (same_self job) in
            let clash : Some (AlreadyDone f.place) ≡ None = sym (ap after_done (stays_done (f ∷ earlier) es more now)) ∙ may in never cc,
        none_is_done (f ∷ earlier) es more may,
      )

  module _ (es : List Entry) (obeyed : broken lim [] es ≡ None) (e : Entry) where
    pub record MayFile (text : List ℕ) : Type 0 where
      pub its_job : is_job job ≡ true
      pub its_text : is_printed lim text ≡ true
      pub none_done : NoneDone es

    pub files_exactly : (text : List ℕ) → says e.parts ≡ FILED job text → (fault lim (reverse es) e ≡ None) ↔ MayFile text
    unfolding fault fault_of after_done
    files_exactly text said = (
      λ fine.
          let (j, t, may) = filed_fine lim (reverse es) e.place job text (said_fine lim (reverse es) e fine said) in
          record { its_job = j; its_text = t; none_done = none_is_done [] es obeyed may },
      λ m. ap (fault_of lim (reverse es) e.place) said ∙ rw (m.its_job, m.its_text) (go (standing job (reverse es)) refl (none_done_turned es [] m.none_done tt)),
    )
      where
        go : (s : JobStanding) → standing job (reverse es) ≡ s → NoneDone (reverse es) → after_done s ≡ None
        go UNFILED is n = refl
        go (FILED_AT p t) is n = refl
        go (DONE_AT p) is n = absurd (not-standing-done (reverse es) n is)

    pub record MayClose : Type 0 where
      pub its_job : is_job job ≡ true
      pub place : ℕ
      pub text : List ℕ
      pub last : standing job (reverse es) ≡ FILED_AT place text
      pub ended : is_finished lim text ≡ true

    pub closes_exactly : says e.parts ≡ DONE job → (fault lim (reverse es) e ≡ None) ↔ MayClose
    unfolding fault fault_of unfinished
    closes_exactly said = (
      λ fine.
          let (j, may) = done_fine lim (reverse es) e.place job (said_fine lim (reverse es) e fine said) in
          let (place, text, last, ended) = finished_when_fine lim (standing job (reverse es)) may in
          record { its_job = j; place = place; text = text; last = last; ended = ended },
      λ m. ap (fault_of lim (reverse es) e.place) said ∙ rw (m.its_job, m.last, m.ended) refl,
    )
