-- Laws of the rules: what an entry has when nothing is wrong with it, and what stands filed in a roll whose entries obey the rules.
use Prim.Native.Nat.{ℕ}
use mathlib.Core.Path.{◌≡◌, refl, ap, sym, ◌∙◌}
use mathlib.Core.Bool.{Bool, true, false, cond}
use Rattle.std.specs.Prelude.{Option, None, Some}
use mathlib.Core.List.{List, [], ◌∷◌, ◌++◌, append_assoc, append-nil, reverse, reverse-cons, reverse_aux}
use Rattle.kinds.specs.Limits.{Limits}
use Rattle.plan.specs.Options.{is_none}
use Rattle.kinds.proofs.Tests.{never}
use Rattle.stored.specs.Same.{same}
use Rattle.stored.proofs.Same.{same_equal}
use Rattle.roll_format.specs.Format.{DONE, Entry, EntrySays, FILED, NEITHER, says}
use Rattle.roll_rules.specs.Rules.{DONE_AT, FILED_AT, JobStanding, UNFILED, after_done, broken, fault, fault_of, is_finished, is_job, is_printed, newest, standing, unfinished}
use Rattle.roll_rules.specs.declared.RollRefusal.{RollRefusal}
use Rattle.roll_rules.specs.declared.RollRefusal.TheVariants.{BadJob, BadText, Unfinished}

module _ (lim : Limits) (earlier : List Entry) where
  -- by what the entry says
  pub said_fine : (e : Entry) → fault lim earlier e ≡ None → {s : EntrySays} → says e.parts ≡ s → fault_of lim earlier e.place s ≡ None
  unfolding fault
  said_fine e fine is = ap (fault_of lim earlier e.place) (sym is) ∙ fine

  -- where none breaks a rule, nothing is wrong with the first, nor with those behind it
  pub first_fine : (e : Entry) (es : List Entry) → broken lim earlier (e ∷ es) ≡ None → (fault lim earlier e ≡ None) × (broken lim (e ∷ earlier) es ≡ None)
  unfolding broken is_none
  first_fine e es h = go (fault lim earlier e) refl h
    where
      go : (o : Option RollRefusal) → fault lim earlier e ≡ o → cond (is_none o) (broken lim (e ∷ earlier) es) (Some e.place) ≡ None
          → (fault lim earlier e ≡ None) × (broken lim (e ∷ earlier) es ≡ None)
      go None fine more = (fine, more)
      go (Some r) fine more = never cc

  module _ (place : ℕ) (job : List ℕ) where
    pub filed_fine : (text : List ℕ) → fault_of lim earlier place (FILED job text) ≡ None
        → (is_job job ≡ true) × (is_printed lim text ≡ true) × (after_done (standing job earlier) ≡ None)
    unfolding fault_of
    filed_fine text h = go (is_job job) (is_printed lim text) refl refl h
      where
        go : (a b : Bool) → is_job job ≡ a → is_printed lim text ≡ b → cond a (cond b (after_done (standing job earlier)) (Some BadText)) (Some BadJob) ≡ None
            → (is_job job ≡ true) × (is_printed lim text ≡ true) × (after_done (standing job earlier) ≡ None)
        go true true j t e = (j, t, e)
        go true false j t e = never cc
        go false b j t e = never cc

    pub done_fine : fault_of lim earlier place (DONE job) ≡ None → (is_job job ≡ true) × (unfinished lim (standing job earlier) ≡ None)
    unfolding fault_of
    done_fine h = go (is_job job) refl h
      where
        go : (a : Bool) → is_job job ≡ a → cond a (unfinished lim (standing job earlier)) (Some BadJob) ≡ None → (is_job job ≡ true) × (unfinished lim (standing job earlier) ≡ None)
        go true j e = (j, e)
        go false j e = never cc

-- what may be done has a text that stands filed and finished
pub finished_when_fine : (lim : Limits) (s : JobStanding) → unfinished lim s ≡ None → (place : ℕ) × (text : List ℕ) × (s ≡ FILED_AT place text) × (is_finished lim text ≡ true)
unfolding unfinished
finished_when_fine lim UNFILED h = never cc
finished_when_fine lim (FILED_AT place text) h = go (is_finished lim text) refl h
  where
    go : (b : Bool) → is_finished lim text ≡ b → cond b None (Some (Unfinished place)) ≡ None
        → (p : ℕ) × (t : List ℕ) × (FILED_AT place text ≡ FILED_AT p t) × (is_finished lim t ≡ true)
    go true is e = (place, text, refl, is)
    go false is e = never cc
finished_when_fine lim (DONE_AT place) h = never cc

-- where entries obey the rules, what stands filed is a job number's printed text
module _ (lim : Limits) (job : List ℕ) where
  pub record FiledRight (text : List ℕ) : Type 0 where
    pub its_job : is_job job ≡ true
    pub its_text : is_printed lim text ≡ true

  abbrev IfFiled : List Entry → Type 0
  IfFiled earlier = (place : ℕ) (text : List ℕ) → standing job earlier ≡ FILED_AT place text → FiledRight text

  -- one entry more
  filed-here : (earlier : List Entry) (f : Entry) → fault lim earlier f ≡ None → IfFiled earlier → IfFiled (f ∷ earlier)
  unfolding standing newest
  filed-here earlier f good before place text e = by (says f.parts) refl e
    where
      by_filed : (j t : List ℕ) → says f.parts ≡ FILED j t → (b : Bool) → same j job ≡ b → cond b (FILED_AT f.place t) (standing job earlier) ≡ FILED_AT place text → FiledRight text
      by_filed j t said true is e =
          let fine = filed_fine lim earlier f.place j t (said_fine lim earlier f good said) in
          let own : t ≡ text = cc in
          record { its_job = ap is_job (sym (same_equal j job is)) ∙ fine.0; its_text = ap (is_printed lim) (sym own) ∙ fine.1 }
      by_filed j t said false is e = before place text e

      by_done : (b : Bool) → cond b (DONE_AT f.place) (standing job earlier) ≡ FILED_AT place text → FiledRight text
      by_done true e = never cc
      by_done false e = before place text e

      by : (x : EntrySays) → says f.parts ≡ x → newest job f.place x (standing job earlier) ≡ FILED_AT place text → FiledRight text
      by (FILED j t) said e = by_filed j t said (same j job) refl e
      by (DONE j) said e = by_done (same j job) e
      by NEITHER said e = before place text e

  filed_behind : (earlier es : List Entry) → broken lim earlier es ≡ None → IfFiled earlier → IfFiled (reverse_aux es earlier)
  filed_behind earlier [] h before = before
  filed_behind earlier (f ∷ es) h before =
      let (fine, more) = first_fine lim earlier f es h in filed_behind (f ∷ earlier) es more (filed-here earlier f fine before)

  pub filed-right : (es : List Entry) → broken lim [] es ≡ None → {place : ℕ} {text : List ℕ} → standing job (reverse es) ≡ FILED_AT place text → FiledRight text
  unfolding standing
  filed-right es h {place} {text} e = filed_behind [] es h (λ p t nobody. never cc) place text e

-- the rules look at earlier entries only
module _ (lim : Limits) where
  pub broken_on : (earlier es more : List Entry) → broken lim earlier es ≡ None → broken lim earlier (es ++ more) ≡ broken lim (reverse es ++ earlier) more
  unfolding broken is_none
  broken_on earlier [] more h = refl
  broken_on earlier (e ∷ es) more h =
      let (fine, later) = first_fine lim earlier e es h in
      ap (λ o. cond (is_none o) (broken lim (e ∷ earlier) (es ++ more)) (Some e.place)) fine ∙ broken_on (e ∷ earlier) es more later
      ∙ ap (λ z. broken lim z more) (sym (append_assoc (reverse es) (e ∷ []) earlier) ∙ ap (◌++ earlier) (sym (reverse-cons e es)))

  -- a front part of what obeys the rules obeys them
  pub broken_front : (earlier xs ys : List Entry) → broken lim earlier (xs ++ ys) ≡ None → broken lim earlier xs ≡ None
  unfolding broken is_none
  broken_front earlier [] ys h = refl
  broken_front earlier (e ∷ xs) ys h =
      let (fine, later) = first_fine lim earlier e (xs ++ ys) h in
      ap (λ o. cond (is_none o) (broken lim (e ∷ earlier) xs) (Some e.place)) fine ∙ broken_front (e ∷ earlier) xs ys later

  module _ (es : List Entry) where
    behind : broken lim [] es ≡ None → (more : List Entry) → broken lim [] (es ++ more) ≡ broken lim (reverse es) more
    behind fine more = broken_on [] es more fine ∙ ap (λ z. broken lim z more) (append-nil (reverse es))

    -- one entry more, with which nothing is wrong; and one with which something is, whatever comes behind it
    pub obeyed_on : broken lim [] es ≡ None → (e : Entry) → fault lim (reverse es) e ≡ None → broken lim [] (es ++ e ∷ []) ≡ None
    unfolding broken is_none
    obeyed_on fine e h = behind fine (e ∷ []) ∙ ap (λ o. cond (is_none o) None (Some e.place)) h

    pub broken-at : broken lim [] es ≡ None → (e : Entry) {r : RollRefusal} → fault lim (reverse es) e ≡ Some r → (more : List Entry) → broken lim [] (es ++ e ∷ more) ≡ Some e.place
    unfolding broken is_none
    broken-at fine e h more = behind fine (e ∷ more) ∙ ap (λ o. cond (is_none o) (broken lim (e ∷ reverse es) more) (Some e.place)) h

    -- an entry among others
    pub entry_fine : (e : Entry) (after : List Entry) → broken lim [] (es ++ e ∷ after) ≡ None
        → (fault lim (reverse es) e ≡ None) × (broken lim (e ∷ reverse es) after ≡ None)
    entry_fine e after h = first_fine lim (reverse es) e after (sym (behind (broken_front [] es (e ∷ after) h) (e ∷ after)) ∙ h)
