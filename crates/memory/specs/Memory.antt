-- What it means that lent numbers hold a plan. A cell has four numbers and two ports. Its start is an operator, a token or a block's `[`.
-- Its close is, for a block, the `]`. Each port has a datum and a link. The link names the port that comes next in the printed text. So a
-- whole plan is one chain of ports, and the last item of a block links to that block's own `]`.
-- The outermost sequence is the inside of a cell that is not lent, number n. Its start links to the
-- first port, and its close is the end mark.
use Rattle.std.specs.Prelude.{ℕ, ◌+◌, ◌*◌, ◌<◌, ◌≡◌, ◌≢◌, ◌⊎◌, List, [], ◌∷◌, ◌++◌, length, get_or, take}
use Rattle.kinds.specs.Limits.{cell_numbers}
use Rattle.kinds.specs.declared.Token.{Token}
use Rattle.plan.specs.Plan.{Plan, end, operator, token, block, labels}
use Rattle.pieces.specs.Numbered.{operator_number}
use Rattle.plan.specs.Reading.{Around, outermost, inside, place}
use Rattle.plan.specs.Pieces.{seen}
use Rattle.pieces.specs.Written.{TokenAt}

-- the ports of a cell
abbrev pub start : ℕ → ℕ
start c = 2 * c

abbrev pub close : ℕ → ℕ
close c = 2 * c + 1

-- the datum and the link of a port
abbrev pub datum : List ℕ → ℕ → ℕ
datum w p = get_or w (2 * p) 0

abbrev pub link : List ℕ → ℕ → ℕ
link w p = get_or w (2 * p + 1) 0

-- what the datum of a start says: an operator by its number, a token, a block
abbrev pub token_kind : ℕ
token_kind = 4

abbrev pub block_kind : ℕ
block_kind = 5

-- the lent numbers of n cells and, behind them, the start of cell number n, whose link is kept beside the memory
abbrev pub whole : (n : ℕ) → List ℕ → (first : ℕ) → List ℕ
whole n m first = take (cell_numbers * n) m ++ block_kind ∷ first ∷ []

-- the ports of a plan labelled with its cells, in printed order
unfoldable pub ports : Plan ℕ → List ℕ
ports end = []
ports (operator c o p) = start c ∷ ports p
ports (token c t p) = start c ∷ ports p
ports (block c b p) = start c ∷ (ports b ++ close c ∷ ports p)

-- each port of the list links to the one behind it
abbrev pub Linked : List ℕ → List ℕ → Type 0
Linked w [] = Unit {0}
Linked w (x ∷ []) = Unit {0}
Linked w (x ∷ y ∷ r) = (link w x ≡ y) × Linked w (y ∷ r)

-- the token that the numbers of a cell say, by the cell's start
abbrev pub token_at : List ℕ → (port : ℕ) → Token
token_at w port = record { at = place (datum w (port + 1)); len = link w (port + 1) }

-- each cell's numbers say its item; a token's second pair is its place and its length in the text
abbrev pub Says : (text w : List ℕ) → Plan ℕ → Type 0
Says text w end = Unit {0}
Says text w (operator c o p) = (datum w (start c) ≡ operator_number o) × Says text w p
Says text w (token c t p) =
    (datum w (start c) ≡ token_kind) × TokenAt text (datum w (close c)) (link w (close c)) t × Says text w p
Says text w (block c b p) = (datum w (start c) ≡ block_kind) × Says text w b × Says text w p

-- free cells, each start linking to the next; the last to `stop`
abbrev pub Free : List ℕ → ℕ → List ℕ → ℕ → Type 0
Free w f [] stop = f ≡ stop
Free w f (c ∷ cs) stop = (f ≡ c) × Free w (link w (start c)) cs stop

abbrev pub Below : ℕ → List ℕ → Type 0
Below n [] = Unit {0}
Below n (c ∷ cs) = (c < n) × Below n cs

abbrev pub Absent : ℕ → List ℕ → Type 0
Absent c [] = Unit {0}
Absent c (d ∷ ds) = (c ≢ d) × Absent c ds

abbrev pub Distinct : List ℕ → Type 0
Distinct [] = Unit {0}
Distinct (c ∷ cs) = Absent c cs × Distinct cs

-- the cells in use and the free ones are all n cells, each once
pub record Shared (n : ℕ) (w : List ℕ) (free : ℕ) (used : List ℕ) : Type 0 where
  pub spare : List ℕ
  pub frees : Free w free spare n
  pub below : Below n (used ++ spare)
  pub distinct : Distinct (used ++ spare)
  pub all : length (used ++ spare) ≡ n
  pub room : length w ≡ cell_numbers * n + 2

-- w holds the plan t, whose labels are its cells
pub record Holds (text : List ℕ) (n : ℕ) (w : List ℕ) (free : ℕ) (t : Plan ℕ) : Type 0 where
  pub chain : Linked w (start n ∷ (ports t ++ close n ∷ []))
  pub says : Says text w t
  pub shared : Shared n w free (labels t)

-- A plan that is being built: what is open around the sequence `here`. An open block keeps the cell around it in the link of
-- its close, until it is closed.
abbrev pub innermost : ℕ → Around → ℕ
innermost n outermost = n
innermost n (inside c before out) = c

abbrev pub KeepsOuter : (n : ℕ) → List ℕ → Around → Type 0
KeepsOuter n w outermost = Unit {0}
KeepsOuter n w (inside c before out) = (link w (close c) ≡ innermost n out) × KeepsOuter n w out

unfoldable pub ports_so_far : Around → Plan ℕ → List ℕ
ports_so_far outermost here = ports here
ports_so_far (inside c before out) here = ports_so_far out before ++ start c ∷ ports here

abbrev pub SaysSoFar : (text w : List ℕ) → Around → Plan ℕ → Type 0
SaysSoFar text w outermost here = Says text w here
SaysSoFar text w (inside c before out) here =
    SaysSoFar text w out before × (datum w (start c) ≡ block_kind) × Says text w here

abbrev pub last_of : ℕ → List ℕ → ℕ
last_of x [] = x
last_of x (y ∷ ys) = last_of y ys

-- The sequence that is built is the inside of the cell `root`: cell number n, or one of the cells `others`. These are in
-- use elsewhere and no part of the sequence.
pub record Building (text : List ℕ) (n : ℕ) (w : List ℕ) (root : ℕ) (others : List ℕ) (tail opened free : ℕ) (out : Around) (here : Plan ℕ) : Type 0 where
  pub rooted : (root ≡ n) ⊎ (¬ Absent root others)
  pub chain : Linked w (start root ∷ ports_so_far out here)
  pub at_tail : last_of (start root) (ports_so_far out here) ≡ tail
  pub at_open : innermost root out ≡ opened
  pub keeps : KeepsOuter root w out
  pub says : SaysSoFar text w out here
  pub shared : Shared n w free (others ++ seen out here)

-- a sequence inside the cell `root` that is built to its end
pub record HoldsIn (text : List ℕ) (n : ℕ) (w : List ℕ) (root : ℕ) (others : List ℕ) (free : ℕ) (t : Plan ℕ) : Type 0 where
  pub chain : Linked w (start root ∷ (ports t ++ close root ∷ []))
  pub says : Says text w t
  pub shared : Shared n w free (others ++ labels t)
