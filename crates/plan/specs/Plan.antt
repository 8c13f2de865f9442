-- What a plan is, how many cells it has and what its printed text is: document 01, "What a plan is made of".
-- A sequence of items is the spine of the one type, so that every definition goes by plain recursion.
use Rattle.std.specs.Prelude.{ℕ, ◌+◌, List, [], ◌∷◌, ◌++◌, ◌≢◌}
pub use Rattle.plan.specs.declared.Operator.{Operator}
pub use Rattle.plan.specs.declared.Operator.TheVariants.{A as op_a, B as op_b, C as op_c, D as op_d}

-- A sequence: its end, or an item and the items after it. Every item carries a label, which no rule looks at: reading
-- puts the place of the item's first byte there. A token is the bytes between its braces.
pub data Plan (L : Type 0) : Type 0 where
  end : Plan L
  operator : L → Operator → Plan L → Plan L
  token : L → List ℕ → Plan L → Plan L
  block : L → Plan L → Plan L → Plan L

-- one sequence, then another
infixr 30 ◌then◌
unfoldable pub ◌then◌ : {L : Type 0} → Plan L → Plan L → Plan L
end then q = q
operator l o p then q = operator l o (p then q)
token l t p then q = token l t (p then q)
block l b p then q = block l b (p then q)

-- an operator is 1, a token is 1, a block is 1 plus the cells of its contents
unfoldable pub cells : {L : Type 0} → Plan L → ℕ
cells end = 0
cells (operator l o p) = 1 + cells p
cells (token l t p) = 1 + cells p
cells (block l b p) = 1 + cells b + cells p

unfoldable pub letter : Operator → ℕ
letter op_a = 97
letter op_b = 98
letter op_c = 99
letter op_d = 100

-- the bytes `[`, `]`, `{` and `}`
abbrev pub open_bracket : ℕ
open_bracket = 91

abbrev pub close_bracket : ℕ
close_bracket = 93

abbrev pub open_brace : ℕ
open_brace = 123

abbrev pub close_brace : ℕ
close_brace = 125

-- the printed text: no SP and no LF outside tokens
unfoldable pub print : {L : Type 0} → Plan L → List ℕ
print end = []
print (operator l o p) = letter o ∷ print p
print (token l t p) = open_brace ∷ (t ++ close_brace ∷ print p)
print (block l b p) = open_bracket ∷ (print b ++ close_bracket ∷ print p)

-- the labels, in the order of the items' first bytes: a block's at its `[`
unfoldable pub labels : {L : Type 0} → Plan L → List L
labels end = []
labels (operator l o p) = l ∷ labels p
labels (token l t p) = l ∷ labels p
labels (block l b p) = l ∷ (labels b ++ labels p)

-- the same plan under other labels, and under none
unfoldable pub relabel : {L M : Type 0} → (L → M) → Plan L → Plan M
relabel f end = end
relabel f (operator l o p) = operator (f l) o (relabel f p)
relabel f (token l t p) = token (f l) t (relabel f p)
relabel f (block l b p) = block (f l) (relabel f b) (relabel f p)

abbrev pub bare : {L : Type 0} → Plan L → Plan (Unit {0})
bare p = relabel (λ l. tt) p

-- the same plan with every label and every token's text replaced, at any depth; then with only the tokens' texts replaced
unfoldable pub changed : {L M : Type 0} → (L → M) → (List ℕ → List ℕ) → Plan L → Plan M
changed f g end = end
changed f g (operator l o p) = operator (f l) o (changed f g p)
changed f g (token l t p) = token (f l) (g t) (changed f g p)
changed f g (block l b p) = block (f l) (changed f g b) (changed f g p)

abbrev pub renamed : {L : Type 0} → (List ℕ → List ℕ) → Plan L → Plan L
renamed g p = changed (λ l. l) g p

-- a plan without operator c, at any depth
abbrev pub WithoutC : {L : Type 0} → Plan L → Type 0
WithoutC end = Unit {0}
WithoutC (operator l o p) = (o ≢ op_c) × WithoutC p
WithoutC (token l t p) = WithoutC p
WithoutC (block l b p) = WithoutC b × WithoutC p
