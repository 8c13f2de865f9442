-- The numbers tell the plan: two plans are one where they are linked from the same port on and the same cells say them. An item
-- begins with a start, which is an even port. A sequence ends with a close, which is an odd port. So the links tell where a sequence
-- ends, and the data tell which item each is.
use Prim.Native.Nat.{ℕ}
use mathlib.Core.Path.{◌≡◌, refl, ap, sym, ◌∙◌}
use mathlib.Core.List.{List, [], ◌∷◌, ◌++◌, append_assoc, append_cancel_right}
use native.Mathlib.Omega.{arith}
use Rattle.plan.specs.Plan.{Plan, end, operator, token, block, close_brace}
use Rattle.plan.specs.declared.Operator.{Operator}
use Rattle.pieces.specs.Numbered.{operator_number, operator_of}
use Rattle.pieces.proofs.Numbered.{operator_told}
use Rattle.memory.specs.Memory.{start, close, datum, link, ports, Linked, Says, Holds}
use Rattle.pieces.specs.Written.{TokenAt}
use Rattle.memory.proofs.Lists.{linked_split}
use Rattle.memory.proofs.Ports.{kind_low}
use Rattle.hunt.specs.Hunting.{SequenceAt}

one_operator : (o o' : Operator) → operator_number o ≡ operator_number o' → o ≡ o'
one_operator o o' e = sym (operator_told o) ∙ ap operator_of e ∙ operator_told o'

one_token : (text : List ℕ) (at at' len len' : ℕ) (t t' : List ℕ) → at ≡ at' → len ≡ len' → TokenAt text at len t → TokenAt text at' len' t'
    → t ≡ t'
one_token text at at' len len' t t' a l h h' =
    let both : t ++ close_brace ∷ [] ≡ t' ++ close_brace ∷ [] = cc (h.1, h'.1) in
    append_cancel_right t t' (close_brace ∷ []) both

-- two cells at the end of one link are one
one-datum : (w : List ℕ) {x x' : ℕ} (c c' : ℕ) → x ≡ x' → link w x ≡ start c → link w x' ≡ start c' → datum w (start c) ≡ datum w (start c')
one-datum w c c' e h h' = ap (datum w) (sym h ∙ ap (link w) e ∙ h')

-- the ports from which the plans are linked are equal, and what is behind each plan may differ
one_linked : (text w : List ℕ) (x x' : ℕ) (q q' : Plan ℕ) (y y' : ℕ) (r r' : List ℕ) → x ≡ x'
    → Linked w (x ∷ (ports q ++ close y ∷ r)) → Linked w (x' ∷ (ports q' ++ close y' ∷ r')) → Says text w q → Says text w q' → q ≡ q'
unfolding ports
one_linked text w x x' end end y y' r r' e h h' s s' = refl
one_linked text w x x' end (operator c o p) y y' r r' e h h' s s' = absurd (omega (arith, ap (link w) e))
one_linked text w x x' end (token c t p) y y' r r' e h h' s s' = absurd (omega (arith, ap (link w) e))
one_linked text w x x' end (block c b p) y y' r r' e h h' s s' = absurd (omega (arith, ap (link w) e))
one_linked text w x x' (operator c o p) end y y' r r' e h h' s s' = absurd (omega (arith, ap (link w) e))
one_linked text w x x' (operator c o p) (operator c' o' p') y y' r r' e h h' s s' =
    let cell : c ≡ c' = omega (arith, ap (link w) e) in
    let same = one_operator o o' (sym s.0 ∙ one-datum w c c' e h.0 h'.0 ∙ s'.0) in
    let rest = one_linked text w (start c) (start c') p p' y y' r r' (ap start cell) h.1 h'.1 s.1 s'.1 in
    cc
one_linked text w x x' (operator c o p) (token c' t' p') y y' r r' e h h' s s' =
    absurd (omega (arith, kind_low o, one-datum w c c' e h.0 h'.0))
one_linked text w x x' (operator c o p) (block c' b' p') y y' r r' e h h' s s' =
    absurd (omega (arith, kind_low o, one-datum w c c' e h.0 h'.0))
one_linked text w x x' (token c t p) end y y' r r' e h h' s s' = absurd (omega (arith, ap (link w) e))
one_linked text w x x' (token c t p) (operator c' o' p') y y' r r' e h h' s s' =
    absurd (omega (arith, kind_low o', one-datum w c c' e h.0 h'.0))
one_linked text w x x' (token c t p) (token c' t' p') y y' r r' e h h' s s' =
    let cell : c ≡ c' = omega (arith, ap (link w) e) in
    let at = ap (λ z. datum w (close z)) cell in
    let len = ap (λ z. link w (close z)) cell in
    let same = one_token text _ _ _ _ t t' at len s.1 s'.1 in
    let rest = one_linked text w (start c) (start c') p p' y y' r r' (ap start cell) h.1 h'.1 s.2 s'.2 in
    cc
one_linked text w x x' (token c t p) (block c' b' p') y y' r r' e h h' s s' =
    absurd (omega (arith, one-datum w c c' e h.0 h'.0))
one_linked text w x x' (block c b p) end y y' r r' e h h' s s' = absurd (omega (arith, ap (link w) e))
one_linked text w x x' (block c b p) (operator c' o' p') y y' r r' e h h' s s' =
    absurd (omega (arith, kind_low o', one-datum w c c' e h.0 h'.0))
one_linked text w x x' (block c b p) (token c' t' p') y y' r r' e h h' s s' =
    absurd (omega (arith, one-datum w c c' e h.0 h'.0))
one_linked text w x x' (block c b p) (block c' b' p') y y' r r' e h h' s s' =
    let cell : c ≡ c' = omega (arith, ap (link w) e) in
    let k : Linked w (start c ∷ (ports b ++ close c ∷ (ports p ++ close y ∷ r))) = simp append_assoc at h.1 in
    let k' : Linked w (start c' ∷ (ports b' ++ close c' ∷ (ports p' ++ close y' ∷ r'))) = simp append_assoc at h'.1 in
    let inside = one_linked text w (start c) (start c') b b' c c' _ _ (ap start cell) k k' s.1 s'.1 in
    let on = (linked_split w (start c ∷ ports b) (close c) (ports p ++ close y ∷ r) k).1 in
    let on' = (linked_split w (start c' ∷ ports b') (close c') (ports p' ++ close y' ∷ r') k').1 in
    let rest = one_linked text w (close c) (close c') p p' y y' r r' (ap close cell) on on' s.2 s'.2 in
    cc

-- a plan that the numbers hold, and a sequence inside a cell
pub one_held : {text : List ℕ} {n : ℕ} {w : List ℕ} {free : ℕ} {t t' : Plan ℕ} → Holds text n w free t → Holds text n w free t' → t ≡ t'
one_held h h' = one_linked _ _ _ _ _ _ _ _ _ _ refl h.chain h'.chain h.says h'.says

pub one_inside : {text : List ℕ} {n : ℕ} {w : List ℕ} {s : ℕ} {q q' : Plan ℕ} → SequenceAt text n w s q → SequenceAt text n w s q' → q ≡ q'
one_inside h h' = one_linked _ _ _ _ _ _ _ _ _ _ refl h.chain h'.chain h.says h'.says
