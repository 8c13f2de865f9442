-- Laws of the format: entries that stand one behind the other from a place on are the listing's first ones.
use Prim.Native.Nat.{ℕ, zero, suc, ◌+◌, ◌-◌, ◌≤◌}
use mathlib.Core.Path.{◌≡◌, refl, ap, ap₂, sym, subst, ◌∙◌}
use mathlib.Core.List.{List, [], ◌∷◌, ◌++◌}
use native.Mathlib.Omega.{arith}
use lib.ListN.{length, drop, length-drop}
use lib.Seq.{drop-cons, drop-drop}
use Rattle.stored.specs.Counted.{AtFront, CUT, FRONT, counted, number, so_many, then_read, two_counted}
use Rattle.stored.proofs.Counted.{number_front, so_many-parts, then-parts}
use Rattle.roll_format.specs.Format.{Entry, Listing, entry, then_listed, listing, sections, with_first}
use Rattle.roll_format.specs.EntriesStand.{EntriesStand}

-- what is read from the front leaves a back part
pub record LeftBehind (bs rest : List ℕ) : Type 0 where
  pub used : ℕ
  pub within : used ≤ length bs
  pub rest_is : rest ≡ drop used bs

abbrev behind_on : {bs rest later : List ℕ} → LeftBehind bs rest → LeftBehind rest later → LeftBehind bs later
behind_on {bs} {rest} {later} a b =
    let long : length rest ≡ length bs - a.used = ap length a.rest_is ∙ length-drop a.used bs in
    record {
      used = a.used + b.used;
      within = omega (arith, a.within, b.within, long);
      rest_is = b.rest_is ∙ ap (drop b.used) a.rest_is ∙ drop-drop b.used a.used bs;
    }

abbrev number_behind : (bs : List ℕ) {n : ℕ} {rest : List ℕ} → number bs ≡ FRONT n rest → LeftBehind bs rest
number_behind bs e = let f = number_front bs e in record { used = 4; within = f.0; rest_is = f.1 }

so_many_behind : (n : ℕ) (bs : List ℕ) {run rest : List ℕ} → so_many n bs ≡ FRONT run rest → LeftBehind bs rest
so_many_behind n bs e = let (fits, is, left) = so_many-parts n bs e in record { used = n; within = fits; rest_is = left }

counted_behind : (bs : List ℕ) {run rest : List ℕ} → counted bs ≡ FRONT run rest → LeftBehind bs rest
unfolding counted
counted_behind bs e =
    let (n, between, one, two) = then-parts (number bs) so_many e in
    behind_on (number_behind bs one) (so_many_behind n between two)

-- the first section, and the others
pub section_parts : (k : ℕ) (bs : List ℕ) {ss : List (List ℕ)} {rest : List ℕ} → sections (suc k) bs ≡ FRONT ss rest
    → (s : List ℕ) × (between : List ℕ) × (more : List (List ℕ)) × (counted bs ≡ FRONT s between) × (sections k between ≡ FRONT more rest) × (ss ≡ s ∷ more)
unfolding sections
section_parts k bs {ss} {rest} e =
    let (s, between, one, two) = then-parts (counted bs) (λ s later. then_read (sections k later) (λ more last. FRONT (s ∷ more) last)) e in
    let (more, last, three, four) = then-parts (sections k between) (λ more last. FRONT (s ∷ more) last) two in
    (s, between, more, one, three ∙ ap (FRONT more) (let same : last ≡ rest = cc in same), let same : ss ≡ s ∷ more = cc in same)

-- two sections are counted bytes twice in a row
pub two-sections : (bs : List ℕ) → sections 2 bs ≡ two_counted (λ job text. job ∷ text ∷ []) bs
unfolding sections two_counted then_read
two-sections bs = go (counted bs)
  where
    second : (s : List ℕ) (x : AtFront (List ℕ))
        → then_read (then_read x (λ t rest. FRONT (t ∷ []) rest)) (λ ss later. FRONT (s ∷ ss) later) ≡ then_read x (λ t later. FRONT (s ∷ t ∷ []) later)
    second s CUT = refl
    second s (FRONT t rest) = refl

    go : (x : AtFront (List ℕ)) → then_read x (λ s rest. then_read (sections 1 rest) (λ ss later. FRONT (s ∷ ss) later))
        ≡ then_read x (λ s rest. then_read (counted rest) (λ t later. FRONT (s ∷ t ∷ []) later))
    go CUT = refl
    go (FRONT s rest) = second s (counted rest)

sections_behind : (k : ℕ) (bs : List ℕ) {ss : List (List ℕ)} {rest : List ℕ} → sections k bs ≡ FRONT ss rest → LeftBehind bs rest
unfolding sections
sections_behind zero bs {ss} {rest} e = record { used = 0; within = omega arith; rest_is = let same : rest ≡ bs = cc in same }
sections_behind (suc k) bs e =
    let (s, between, more, one, two, three) = section_parts k bs e in
    behind_on (counted_behind bs one) (sections_behind k between two)

pub sections_many : (k : ℕ) (bs : List ℕ) {ss : List (List ℕ)} {rest : List ℕ} → sections k bs ≡ FRONT ss rest → length ss ≡ k
unfolding sections
sections_many zero bs {ss} e = ap length (let same : ss ≡ [] = cc in same)
sections_many (suc k) bs e =
    let (s, between, more, one, two, three) = section_parts k bs e in
    ap length three ∙ ap suc (sections_many k between two)

-- an entry takes at least the four bytes of its number
pub entry_behind : (bs : List ℕ) {ss : List (List ℕ)} {rest : List ℕ} → entry bs ≡ FRONT ss rest → (b : LeftBehind bs rest) × (4 ≤ b.used)
unfolding entry
entry_behind bs e =
    let (k, between, one, two) = then-parts (number bs) sections e in
    let later = sections_behind k between two in
    (behind_on (number_behind bs one) later, omega arith)

-- a whole entry at a place ends at another
pub entry-there : (bytes : List ℕ) (at : ℕ) → at ≤ length bytes → {ss : List (List ℕ)} {rest : List ℕ} → entry (drop at bytes) ≡ FRONT ss rest
    → (next : ℕ) × (rest ≡ drop next bytes) × (at + 4 ≤ next) × (next ≤ length bytes)
entry-there bytes at h e =
    let (b, four) = entry_behind (drop at bytes) e in
    (at + b.used, b.rest_is ∙ drop-drop b.used at bytes, omega arith, omega (arith, b.within, length-drop at bytes))

-- the listing skips the bytes of an entry that was listed
listing_skip : (k at : ℕ) (bs : List ℕ) → k ≤ length bs → listing k at bs ≡ listing 0 (at + k) (drop k bs)
unfolding listing
listing_skip zero at bs h = ap (λ a. listing 0 a bs) (omega arith)
listing_skip (suc k) at [] h = absurd (omega arith)
listing_skip (suc k) at (b ∷ bs) h = listing_skip k (suc at) bs (omega arith) ∙ ap (λ a. listing 0 a (drop k bs)) (omega arith)

pub listing-whole : (bytes : List ℕ) (at next : ℕ) {ss : List (List ℕ)} → entry (drop at bytes) ≡ FRONT ss (drop next bytes) → at + 4 ≤ next → next ≤ length bytes
    → listing 0 at (drop at bytes) ≡ with_first (record { place = at; parts = ss }) (listing 0 next (drop next bytes))
unfolding listing then_listed
listing-whole bytes at next {ss} e low high =
    let first = drop-cons bytes at 0 (omega arith) in
    let bs = drop (suc at) bytes in
    let long : length bs ≡ length bytes - suc at = length-drop (suc at) bytes in
    let left : length (drop next bytes) ≡ length bytes - next = length-drop next bytes in
    let skip : length bs - length (drop next bytes) ≡ next - suc at = omega (arith, long, left) in
    let there : suc at + (next - suc at) ≡ next = omega arith in
    ap (listing 0 at) first
    ∙ ap (λ x. then_listed at x (λ rest. listing (length bs - length rest) (suc at) bs)) (ap entry (sym first) ∙ e)
    ∙ ap (with_first (record { place = at; parts = ss }))
    (ap (λ k. listing k (suc at) bs) skip ∙ listing_skip (next - suc at) (suc at) bs (omega (arith, long))
    ∙ ap₂ (listing 0) there (drop-drop (next - suc at) (suc at) bytes ∙ ap (λ k. drop k bytes) there))

pub listing-cut : (bytes : List ℕ) (at : ℕ) → entry (drop at bytes) ≡ CUT → at ≤ length bytes → listing 0 at (drop at bytes) ≡ record { entries = []; end = at }
unfolding listing then_listed
listing-cut bytes at e h = go (drop at bytes) e
  where
    go : (bs : List ℕ) → entry bs ≡ CUT → listing 0 at bs ≡ record { entries = []; end = at }
    go [] e = refl
    go (b ∷ bs) e = ap (λ x. then_listed at x (λ rest. listing (length bs - length rest) (suc at) bs)) e

-- entries in front of a listing
unfoldable pub in_front : List Entry → Listing → Listing
in_front [] l = l
in_front (e ∷ es) l = with_first e (in_front es l)

pub front_entries : (es : List Entry) (l : Listing) → (in_front es l).entries ≡ es ++ l.entries
unfolding in_front with_first
front_entries [] l = refl
front_entries (e ∷ es) l = ap (e ∷◌) (front_entries es l)

pub front_end : (es : List Entry) (l : Listing) → (in_front es l).end ≡ l.end
unfolding in_front with_first
front_end [] l = refl
front_end (e ∷ es) l = front_end es l

pub listing_stands : (bytes : List ℕ) (from upto : ℕ) (es : List Entry) → EntriesStand bytes from es upto
    → listing 0 from (drop from bytes) ≡ in_front es (listing 0 upto (drop upto bytes))
unfolding in_front
listing_stands bytes from upto [] e = ap (λ k. listing 0 k (drop k bytes)) e
listing_stands bytes from upto (e ∷ es) (p, (next, whole, low, high, more)) =
    listing-whole bytes from next whole low high
    ∙ ap₂ with_first (ap (λ k. record { place = k; parts = e.parts }) (sym p)) (listing_stands bytes next upto es more)

pub stands_within : (bytes : List ℕ) (from upto : ℕ) (es : List Entry) → EntriesStand bytes from es upto → from ≤ upto
stands_within bytes from upto [] e = omega arith
stands_within bytes from upto (e ∷ es) (p, (next, whole, low, high, more)) = omega (arith, stands_within bytes next upto es more)

-- one entry more behind those that stand
pub stands_on : (bytes : List ℕ) (from at next : ℕ) (es : List Entry) {parts : List (List ℕ)} → EntriesStand bytes from es at
    → entry (drop at bytes) ≡ FRONT parts (drop next bytes) → at + 4 ≤ next → next ≤ length bytes
    → EntriesStand bytes from (es ++ record { place = at; parts = parts } ∷ []) next
stands_on bytes from at next [] {parts} e whole low high =
    subst (λ k. EntriesStand bytes k (record { place = at; parts = parts } ∷ []) next) (sym e) (refl, (next, whole, low, high, refl))
stands_on bytes from at next (e ∷ es) (p, (then, one, l, h, more)) whole low high = (p, (then, one, l, h, stands_on bytes then at next es more whole low high))

-- the entries of a listing stand, up to its end
abbrev pub ListingStands : (bytes : List ℕ) → (at : ℕ) → Listing → Type 0
ListingStands bytes at l = EntriesStand bytes at l.entries l.end × (l.end ≤ length bytes)

stood_by : (bytes : List ℕ) (at : ℕ) → at ≤ length bytes → ((next : ℕ) → at + 4 ≤ next → next ≤ length bytes → ListingStands bytes next (listing 0 next (drop next bytes)))
    → ListingStands bytes at (listing 0 at (drop at bytes))
unfolding with_first
stood_by bytes at within later = go (entry (drop at bytes)) refl
  where
    go : (x : AtFront (List (List ℕ))) → entry (drop at bytes) ≡ x → ListingStands bytes at (listing 0 at (drop at bytes))
    go CUT e = subst (ListingStands bytes at) (sym (listing-cut bytes at e within)) (refl, within)
    go (FRONT ss left) e =
        let (next, is, low, high) = entry-there bytes at within e in
        let whole = e ∙ ap (FRONT ss) is in
        let more = later next low high in
        subst (ListingStands bytes at) (sym (listing-whole bytes at next whole low high)) ((refl, (next, whole, low, high, more.0)), more.1)

listing_stood : (bytes : List ℕ) (n at : ℕ) → length bytes - at ≤ n → at ≤ length bytes → ListingStands bytes at (listing 0 at (drop at bytes))
listing_stood bytes zero at few within = stood_by bytes at within (λ next low high. absurd (omega arith))
listing_stood bytes (suc n) at few within = stood_by bytes at within (λ next low high. listing_stood bytes n next (omega arith) high)

pub listing_stands_up : (bytes : List ℕ) (at : ℕ) → at ≤ length bytes → ListingStands bytes at (listing 0 at (drop at bytes))
listing_stands_up bytes at within = listing_stood bytes (length bytes) at (omega arith) within
