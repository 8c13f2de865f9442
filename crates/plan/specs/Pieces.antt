-- A plan as a flat list of pieces: an operator, a token, a `[`, a `]`. What a text reads as, what is printed and what the work
-- memory's chain shows are three views of this one list: the laws in proofs/Pieces.antt and proofs/Reached.antt tie them. A piece that
-- begins an item has that item's label.
use Rattle.std.specs.Prelude.{ℕ, zero, suc, ◌+◌, ◌≡◌, true, List, [], ◌∷◌, ◌++◌, length}
use Rattle.plan.specs.Plan.{Operator, Plan, end, operator, token, block, labels, letter, print, open_bracket, close_bracket, open_brace, close_brace}
use Rattle.plan.specs.Token.{KeptToken, allowed}
use Rattle.plan.specs.Reading.{Around, outermost, inside, Mark, OPERATOR, OPEN, CLOSE, BRACE, class}

pub data Piece (L : Type 0) : Type 0 where
  OP : L → Operator → Piece L
  TOKEN : L → List ℕ → Piece L
  BEGIN : L → Piece L
  END : Piece L

unfoldable pub pieces : {L : Type 0} → Plan L → List (Piece L)
pieces end = []
pieces (operator l o p) = OP l o ∷ pieces p
pieces (token l t p) = TOKEN l t ∷ pieces p
pieces (block l b p) = BEGIN l ∷ (pieces b ++ END ∷ pieces p)

-- what a piece prints, and what pieces print in a row
unfoldable pub piece_print : {L : Type 0} → Piece L → List ℕ
piece_print (OP l o) = letter o ∷ []
piece_print (TOKEN l t) = open_brace ∷ (t ++ close_brace ∷ [])
piece_print (BEGIN l) = open_bracket ∷ []
piece_print END = close_bracket ∷ []

unfoldable pub in_a_row : {L : Type 0} → List (Piece L) → List ℕ
in_a_row [] = []
in_a_row (x ∷ ps) = piece_print x ++ in_a_row ps

-- the labels of the pieces that begin an item: as many as there are cells
unfoldable pub piece_labels : {L : Type 0} → List (Piece L) → List L
piece_labels [] = []
piece_labels (OP l o ∷ ps) = l ∷ piece_labels ps
piece_labels (TOKEN l t ∷ ps) = l ∷ piece_labels ps
piece_labels (BEGIN l ∷ ps) = l ∷ piece_labels ps
piece_labels (END ∷ ps) = piece_labels ps

unfoldable pub relabelled : {L M : Type 0} → (L → M) → List (Piece L) → List (Piece M)
relabelled f [] = []
relabelled f (OP l o ∷ ps) = OP (f l) o ∷ relabelled f ps
relabelled f (TOKEN l t ∷ ps) = TOKEN (f l) t ∷ relabelled f ps
relabelled f (BEGIN l ∷ ps) = BEGIN (f l) ∷ relabelled f ps
relabelled f (END ∷ ps) = END ∷ relabelled f ps

-- pieces with no label at all
abbrev pub bares : {L : Type 0} → List (Piece L) → List (Piece (Unit {0}))
bares ps = relabelled (λ l. tt) ps

-- `Shows limit at bs ps`: the bytes bs, the first of them at the place `at`, hold no fault, and ps are their pieces, each labelled with its
-- place. Blocks left open, or a `]` too many, do not count as a fault here.
pub data Shows (limit : ℕ) : ℕ → List ℕ → List (Piece ℕ) → Type 0 where
  nothing : {at : ℕ} → Shows limit at [] []
  a_mark : {at b : ℕ} {m bs : List ℕ} {ps : List (Piece ℕ)}
      → Mark limit b m → Shows limit (at + suc (length m)) bs ps → Shows limit at (b ∷ (m ++ bs)) ps
  an_operator : {at b : ℕ} {o : Operator} {bs : List ℕ} {ps : List (Piece ℕ)}
      → class b ≡ OPERATOR o → Shows limit (at + 1) bs ps → Shows limit at (b ∷ bs) (OP at o ∷ ps)
  a_token : {at b : ℕ} {bs : List ℕ} {ps : List (Piece ℕ)} (t : List ℕ)
      → class b ≡ BRACE → KeptToken limit t → Shows limit (at + (length t + 2)) bs ps
      → Shows limit at (b ∷ (t ++ close_brace ∷ bs)) (TOKEN at t ∷ ps)
  opens : {at b : ℕ} {bs : List ℕ} {ps : List (Piece ℕ)} → class b ≡ OPEN → Shows limit (at + 1) bs ps → Shows limit at (b ∷ bs) (BEGIN at ∷ ps)
  closes : {at b : ℕ} {bs : List ℕ} {ps : List (Piece ℕ)} → class b ≡ CLOSE → Shows limit (at + 1) bs ps → Shows limit at (b ∷ bs) (END ∷ ps)

-- what a `{` opens: an allowed text with a `}` after it
pub record Found (limit : ℕ) (bs t : List ℕ) : Type 0 where
  pub rest : List ℕ
  pub splits : bs ≡ t ++ close_brace ∷ rest
  pub fine : allowed limit t ≡ true

-- the pieces and the labels of all that was read so far, where blocks are still open
unfoldable pub so_far : Around → Plan ℕ → List (Piece ℕ)
so_far outermost here = pieces here
so_far (inside l before out) here = so_far out before ++ BEGIN l ∷ pieces here

unfoldable pub seen : Around → Plan ℕ → List ℕ
seen outermost here = labels here
seen (inside l before out) here = seen out before ++ l ∷ labels here

-- a plan with the places that its items have in its printed text, if that begins at the place `at`
unfoldable pub placed : {L : Type 0} → (at : ℕ) → Plan L → Plan ℕ
placed at end = end
placed at (operator l o p) = operator at o (placed (at + 1) p)
placed at (token l t p) = token at t (placed (suc at + suc (length t)) p)
placed at (block l b p) = block at (placed (at + 1) b) (placed (at + 1 + length (print b) + 1) p)

-- with so many blocks open before them, the pieces close each of these and each that they begin
abbrev pub Closes : {L : Type 0} → ℕ → List (Piece L) → Type 0
Closes zero [] = Unit {0}
Closes (suc d) [] = ⊥
Closes d (OP l o ∷ ps) = Closes d ps
Closes d (TOKEN l t ∷ ps) = Closes d ps
Closes d (BEGIN l ∷ ps) = Closes (suc d) ps
Closes zero (END ∷ ps) = ⊥
Closes (suc d) (END ∷ ps) = Closes d ps
