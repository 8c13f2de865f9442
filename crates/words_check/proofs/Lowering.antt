-- Walking the pieces of one text: the bound comes down to the least rank, from the walked word's on, that a token of the text names.
use Prim.Native.Nat.{ℕ, ◌≤◌, ◌<◌}
use mathlib.Core.Path.{◌≡◌, refl, ap, ap₂, sym, ◌∙◌}
use mathlib.Core.Bool.{Bool, true, false, cond, ◌||◌, or_assoc, or-true}
use mathlib.Core.List.{List, [], ◌∷◌, ◌++◌}
use native.Mathlib.Omega.{arith}
use borrow.Author.Tests.{ltb-false, ltb-true}
use lib.Dec.{ltb}
use Rattle.kinds.specs.Limits.{token_limit}
use Rattle.plan.specs.Pieces.{Piece, OP, TOKEN, BEGIN, END, pieces}
use Rattle.plan.specs.Plan.{Plan, end, operator, token, block}
use Rattle.plan.specs.Reading.{plan_of}
use Rattle.kinds.proofs.Tests.{never}
use Rattle.pieces.specs.Written.{Is}
use Rattle.pieces.specs.declared.Piece.{Piece as CodePiece}
use Rattle.items.specs.Walk.{Passed, ShowsAhead}
use Rattle.items.proofs.Walking.{passed_ahead}
use Rattle.stored.specs.Same.{same}
use Rattle.stored.proofs.Same.{same_false, same_true}
use Rattle.words_meaning.specs.Linking.{holds}
use Rattle.words_shelf.specs.Shelf.{Readable, seek, seek_piece}
use Rattle.words_shelf.specs.declared.WordAt.{WordAt}
use Rattle.std.specs.Prelude.{Option, Some, None}
use Rattle.words_check.specs.Checking.{OwnNames, lower, lowered}
use Rattle.words_check.proofs.Ranks.{listed_told, token_names, token_of, tokens_apart}

-- Whether a token stands in a plan is told by its pieces.

-- a token with the text t is among the pieces
unfoldable pub among : {L : Type 0} → (t : List ℕ) → List (Piece L) → Bool
among t [] = false
among t (OP l o ∷ ps) = among t ps
among t (TOKEN l u ∷ ps) = same t u || among t ps
among t (BEGIN l ∷ ps) = among t ps
among t (END ∷ ps) = among t ps

module _ {L : Type 0} (t : List ℕ) where
  -- a token is among two rows if it is among either
  among_append : (ps qs : List (Piece L)) → among t (ps ++ qs) ≡ (among t ps || among t qs)
  unfolding among
  among_append [] qs = refl
  among_append (OP l o ∷ ps) qs = among_append ps qs
  among_append (TOKEN l u ∷ ps) qs = ap (same t u ||◌) (among_append ps qs) ∙ sym (or_assoc (same t u) (among t ps) (among t qs))
  among_append (BEGIN l ∷ ps) qs = among_append ps qs
  among_append (END ∷ ps) qs = among_append ps qs

  -- it stands in a plan if it is among the pieces
  pub holds-among : (p : Plan L) → holds t p ≡ among t (pieces p)
  unfolding holds among pieces
  holds-among end = refl
  holds-among (operator l o p) = holds-among p
  holds-among (token l u p) = ap (same t u ||◌) (holds-among p)
  holds-among (block l b p) = ap₂ ◌||◌ (holds-among b) (holds-among p) ∙ sym (among_append (pieces b) (END ∷ pieces p))

module _ (list : List ℕ) (words : List WordAt) where
  -- what one piece does to the bound
  data Lowers (t : List ℕ) (rank bound : ℕ) : ℕ → Type 0 where
    leaves : ((u : ℕ) → rank ≤ u → u < bound → OwnNames list words bound → t ≡ token_of list words u → ⊥) → Lowers t rank bound bound
    lowers : {found : ℕ} → rank ≤ found → found < bound → t ≡ token_of list words found → Lowers t rank bound found

  -- a token that names no rank from the walked one on leaves the bound, and one that does lowers it to that rank
  token_lowers : (t : List ℕ) (rank bound : ℕ) → Lowers t rank bound (lower (seek list words bound t) rank bound)
  token_lowers t rank bound = go (seek list words bound t) refl
    where
      other : (x : Option ℕ) → seek list words bound t ≡ x → ((u : ℕ) → rank ≤ u → x ≡ Some u → ⊥)
          → (u : ℕ) → rank ≤ u → u < bound → OwnNames list words bound → t ≡ token_of list words u → ⊥
      other x s no_such u g h own is = no_such u g (sym s ∙ ap (seek list words bound) is ∙ token_names list words bound own u h)

      named : (found : ℕ) → seek list words bound t ≡ Some found → (b : Bool) → ltb found rank ≡ b → Lowers t rank bound (cond b bound found)
      named found s true e =
          let below = ltb-true found rank e in
          leaves (other (Some found) s (λ u g h. let is : found ≡ u = cc in omega arith))
      named found s false e =
          let (less, is) = listed_told list words bound t s in
          lowers (ltb-false found rank e) less is

      go : (x : Option ℕ) → seek list words bound t ≡ x → Lowers t rank bound (lower x rank bound)
      go None s = leaves (other None s (λ u g h. never cc))
      go (Some found) s = named found s (ltb found rank) refl

  -- either way the bound does not rise
  lowers_within : {t : List ℕ} {rank bound next : ℕ} → Lowers t rank bound next → next ≤ bound
  lowers_within (leaves h) = omega arith
  lowers_within (lowers g h is) = omega arith

  -- a bound that came down is the rank of the word that the token names
  came_down : {t : List ℕ} {rank bound next : ℕ} → Lowers t rank bound next → next < bound → (rank ≤ next) × (t ≡ token_of list words next)
  came_down (leaves h) less = absurd (omega arith)
  came_down (lowers g h is) less = (g, is)

  -- and the token names no rank between
  not_named : {t : List ℕ} {rank bound next : ℕ} → Lowers t rank bound next → OwnNames list words bound
      → (u : ℕ) → rank ≤ u → u < next → t ≡ token_of list words u → ⊥
  not_named (leaves h) own u g less is = h u g less own is
  not_named {bound = bound} (lowers {found} f h at) own u g less is =
      let same_rank = tokens_apart list words bound own found u h (omega arith) (sym at ∙ is) in
      omega arith

  module _ {L : Type 0} (rank : ℕ) where
    -- the bound only comes down
    pub lowered_within : (ps : List (Piece L)) (bound : ℕ) → lowered list words rank bound ps ≤ bound
    unfolding lowered
    lowered_within [] bound = omega arith
    lowered_within (OP l o ∷ ps) bound = lowered_within ps bound
    lowered_within (TOKEN l t ∷ ps) bound =
        let next = lower (seek list words bound t) rank bound in
        omega (arith, lowered_within ps next, lowers_within (token_lowers t rank bound))
    lowered_within (BEGIN l ∷ ps) bound = lowered_within ps bound
    lowered_within (END ∷ ps) bound = lowered_within ps bound

    -- no token of the pieces names a rank below it
    pub lowered_clean : (ps : List (Piece L)) (bound : ℕ) → OwnNames list words bound → (u : ℕ) → rank ≤ u → u < lowered list words rank bound ps
        → among (token_of list words u) ps ≡ false
    unfolding lowered among
    lowered_clean [] bound own u g h = refl
    lowered_clean (OP l o ∷ ps) bound own u g h = lowered_clean ps bound own u g h
    lowered_clean (TOKEN l t ∷ ps) bound own u g h =
        let next = lower (seek list words bound t) rank bound in
        let one = token_lowers t rank bound in
        let more = lowered_clean ps next (λ r k. own r (omega (arith, lowers_within one))) u g h in
        let below : u < next = omega (arith, lowered_within ps next) in
        ap₂ ◌||◌ (same_false (token_of list words u) t (λ is. not_named one own u g below (sym is))) more
    lowered_clean (BEGIN l ∷ ps) bound own u g h = lowered_clean ps bound own u g h
    lowered_clean (END ∷ ps) bound own u g h = lowered_clean ps bound own u g h

    -- if it came down, a token of the pieces names it
    pub lowered_found : (ps : List (Piece L)) (bound least : ℕ) → lowered list words rank bound ps ≡ least → least < bound
        → (rank ≤ least) × (among (token_of list words least) ps ≡ true)
    unfolding lowered among
    lowered_found [] bound least e h = absurd (omega arith)
    lowered_found (OP l o ∷ ps) bound least e h = lowered_found ps bound least e h
    lowered_found (TOKEN l t ∷ ps) bound least e h = go (ltb least next) refl (lowered_found ps next least e)
      where
        next : ℕ
        next = lower (seek list words bound t) rank bound

        u : List ℕ
        u = token_of list words least

        go : (b : Bool) → ltb least next ≡ b → (least < next → (rank ≤ least) × (among u ps ≡ true))
            → (rank ≤ least) × ((same u t || among u ps) ≡ true)
        go true s more = let (up, there) = more (ltb-true least next s) in (up, ap (same u t ||◌) there ∙ or-true (same u t))
        go false s more =
            let is : next ≡ least = omega (arith, ltb-false least next s, lowered_within ps next) in
            let (up, named) = came_down (token_lowers t rank bound) (omega arith) in
            (omega arith, ap (◌|| among u ps) (same_true u t (sym (named ∙ ap (token_of list words) is))))
    lowered_found (BEGIN l ∷ ps) bound least e h = lowered_found ps bound least e h
    lowered_found (END ∷ ps) bound least e h = lowered_found ps bound least e h

  -- What the loop over a text's pieces knows: those to come decide, from the bound that is left.
  pub record LeastSoFar (text : List ℕ) (rank bound least at : ℕ) : Type 0 where
    pub within : least ≤ bound
    pub ahead : ShowsAhead text at
    pub decide : lowered list words rank bound (pieces (plan_of token_limit text)) ≡ lowered list words rank least ahead.come

  -- before any piece
  pub least_first : {text : List ℕ} (rank bound : ℕ) → Readable text → LeastSoFar text rank bound bound 0
  least_first {text} rank bound r =
      record { within = omega arith; ahead = record { short = r.short; come = pieces (plan_of token_limit text); shows = r.shows }; decide = refl }

  module _ {text : List ℕ} {rank bound least at : ℕ} (inv : LeastSoFar text rank bound least at) where
    -- behind the last piece the bound is the least
    pub least_last : inv.ahead.come ≡ [] → least ≡ lowered list words rank bound (pieces (plan_of token_limit text))
    unfolding lowered
    least_last none = sym (inv.decide ∙ ap (lowered list words rank least) none)

    -- the next piece
    module _ {k : CodePiece} {place rest : ℕ} (passed : Passed text at k place rest inv.ahead.come) where
      -- the bound that it leaves
      pub least_on : {r : Option ℕ} {next : ℕ} → ((x : Piece ℕ) → Is text k x → r ≡ seek_piece list words least x) → next ≡ lower r rank least
          → LeastSoFar text rank bound next rest
      unfolding lowered
      least_on {r} {next} named e =
          let is : next ≡ lower (seek_piece list words least passed.first) rank least = e ∙ ap (λ x. lower x rank least) (named passed.first passed.is) in
          let down = lowered_within rank (passed.first ∷ []) least in
          record {
            within = omega (arith, inv.within, down, is);
            ahead = passed_ahead inv.ahead passed;
            decide = inv.decide ∙ ap (lowered list words rank least) passed.parts ∙ ap (λ b. lowered list words rank b passed.later) (sym is);
          }
