-- The walk that fills a list with the places of a roll's entries, and what reading then answers.
use Prim.Native.Nat.{ℕ, suc, ◌+◌, ◌≤◌, ◌<◌}
use mathlib.Core.Path.{◌≡◌, refl, ap, ap₂, sym, subst, ◌∙◌}
use mathlib.Core.List.{List, [], ◌∷◌, ◌++◌, append_assoc, append-nil}
use native.Mathlib.Omega.{arith}
use native.Mathlib.Decide.{dec_lt}
use lib.ListN.{length, drop, drop_of_length-le, get_or, set, length-append}
use lib.Seq.{drop-cons, set_at}
use Rattle.std.specs.Prelude.{Option}
use Rattle.roll_entries.specs.declared.EntryAt.{EntryAt}
use Rattle.roll_entries.specs.Entries.{entry_at, next_told}
use Rattle.roll_entries.proofs.Parts.{entry_tells}
use Rattle.roll_format.specs.Format.{Entry, longest}
use Rattle.roll_rules.specs.Answers.{places}
use Rattle.roll_format.specs.EntriesStand.{EntriesStand}
use Rattle.roll_rules.specs.EntriesBefore.{EntriesBefore}
use Rattle.roll_format.proofs.NextEntry.{NextEntry, next-entry, no_next-entry, stand_once}
use Rattle.roll_format.proofs.Format.{stands_on}
use Rattle.roll_read.specs.Judging.{Fillable, filled}

places_append : (es fs : List Entry) → places (es ++ fs) ≡ places es ++ places fs
unfolding places
places_append [] fs = refl
places_append (e ∷ es) fs = ap (e.place ∷◌) (places_append es fs)

places_many : (es : List Entry) → length (places es) ≡ length es
unfolding places
places_many [] = refl
places_many (e ∷ es) = ap suc (places_many es)

-- one place more
filled_on : (gone : List Entry) (e : Entry) (list : List ℕ) → length gone < length list
    → set (filled gone list) (length gone) e.place ≡ filled (gone ++ e ∷ []) list
unfolding places
filled_on gone e list h =
    let first = drop-cons list (length gone) 0 h in
    let many : suc (length gone) ≡ length (gone ++ e ∷ []) = omega (arith, length-append gone (e ∷ [])) in
    ap (λ r. set (places gone ++ r) (length gone) e.place) first
    ∙ set_at (places gone) (get_or list (length gone) 0) (drop (suc (length gone)) list) e.place (length gone) (places_many gone)
    ∙ sym (append_assoc (places gone) (e.place ∷ []) (drop (suc (length gone)) list))
    ∙ ap₂ ◌++◌ (sym (places_append gone (e ∷ []))) (ap (λ k. drop k list) many)

-- so many places are put, and as many entries still come as the list has room for
pub record FilledSoFar (bytes : List ℕ) (end : ℕ) (list₀ list : List ℕ) (at put : ℕ) : Type 0 where
  pub gone : List Entry
  pub come : List Entry
  pub passed : EntriesStand bytes 1 gone at
  pub ahead : 0 < end → EntriesStand bytes at come end
  pub none_there : end ≡ 0 → length list₀ ≡ 0
  pub short : length bytes ≤ longest
  pub room : length gone + length come ≡ length list₀
  pub told : list ≡ filled gone list₀
  pub count : put ≡ length gone

pub filled-first : {bytes : List ℕ} {end : ℕ} {list : List ℕ} → Fillable bytes end (length list) → FilledSoFar bytes end list list 1 0
unfolding places
filled-first f =
    record {
      gone = [];
      come = f.es;
      passed = refl;
      ahead = f.before.stand;
      none_there = λ z. omega (arith, f.room, ap length (f.before.none_there z));
      short = f.before.short;
      room = omega (arith, f.room);
      told = refl;
      count = refl;
    }

module _ {bytes : List ℕ} {end : ℕ} {list₀ list : List ℕ} {at put : ℕ} (f : FilledSoFar bytes end list₀ list at put) where
  -- the whole list is put
  module _ (all : length list₀ ≤ put) where
    no_more : f.come ≡ []
    no_more = go f.come (omega (arith, all, f.room, f.count))
      where
        go : (es : List Entry) → length es ≡ 0 → es ≡ []
        go [] e = refl
        go (x ∷ es) e = absurd (omega (arith, e))

    the_entries : (es : List Entry) → EntriesBefore bytes es end → f.gone ≡ es
    the_entries es b = go (dec_lt 0 end)
      where
        go : Dec (0 < end) → f.gone ≡ es
        go (yes h) = stand_once bytes 1 end f.gone es (subst (EntriesStand bytes 1 f.gone) (subst (λ x. EntriesStand bytes at x end) no_more (f.ahead h)) f.passed) (b.stand h)
        go (no h) =
            let zero_end : end ≡ 0 = omega (arith, h) in
            no_entry f.gone (omega (arith, f.room, f.none_there zero_end)) ∙ sym (b.none_there zero_end)
          where
            no_entry : (xs : List Entry) → length xs ≡ 0 → xs ≡ []
            no_entry [] e = refl
            no_entry (x ∷ xs) e = absurd (omega (arith, e))

    pub filled_end : (es : List Entry) → EntriesBefore bytes es end → list ≡ places es
    filled_end es b =
        let rest : drop (length f.gone) list₀ ≡ [] = drop_of_length-le list₀ (omega (arith, all, f.count)) in
        f.told ∙ ap (places f.gone ++◌) rest ∙ append-nil (places f.gone) ∙ ap places (the_entries es b)

  module _ (more : put < length list₀) where
    some_end : 0 < end
    some_end = go (dec_lt 0 end)
      where
        go : Dec (0 < end) → 0 < end
        go (yes h) = h
        go (no h) = absurd (omega (arith, more, f.none_there (omega (arith, h))))

    here : NextEntry bytes at end f.come
    here = next-entry bytes at end (λ e. absurd (omega (arith, ap length (no_next-entry bytes at end e f.come (f.ahead some_end)), more, f.room, f.count))) f.come (f.ahead some_end)

    pub filled-small : at < longest
    filled-small = omega (arith, here.low, here.high, f.short)

    pub filled_on_to : (x : Option EntryAt) (next : ℕ) → x ≡ entry_at bytes at → next ≡ next_told x end → (list' : List ℕ) → list' ≡ set list put at
        → FilledSoFar bytes end list₀ list' next (put + 1)
    filled_on_to x next is there list' made =
        let far : next ≡ here.next =
        there ∙ ap (λ (y : Option EntryAt). next_told y end) is ∙ (entry_tells bytes at here.next here.high here.first.parts here.whole).behind end in
        let e : Entry = record { place = at; parts = here.first.parts } in
        let many : length (f.gone ++ e ∷ []) ≡ length f.gone + 1 = length-append f.gone (e ∷ []) in
        let left : length f.come ≡ suc (length here.others) = ap length here.parts in
        record {
          gone = f.gone ++ e ∷ [];
          come = here.others;
          passed = subst (EntriesStand bytes 1 (f.gone ++ e ∷ [])) (sym far) (stands_on bytes 1 at here.next f.gone f.passed here.whole here.low here.high);
          ahead = λ _. subst (λ k. EntriesStand bytes k here.others end) (sym far) here.stand;
          none_there = f.none_there;
          short = f.short;
          room = omega (arith, f.room, left, many);
          told = made ∙ ap₂ (λ l k. set l k at) f.told f.count ∙ filled_on f.gone e list₀ (omega (arith, f.room, left));
          count = omega (arith, f.count, many);
        }

-- the front of a list that was lent to be filled, and is back
pub front_filled : (es : List Entry) (list last : List ℕ) {many : ℕ} → many ≡ length es → last ≡ places es → last ++ drop many list ≡ filled es list
front_filled es list last size e = ap₂ (λ l k. l ++ drop k list) e size
