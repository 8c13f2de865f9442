-- Of a text that is cut: all before what stands behind the cut, and all behind what stands before it, make it whole again.
use Rattle.std.proofs.Common.{arith, ap, sym, subst, refl, inl, inr, ◌∙◌, ◌≡◌, ◌-◌, ◌++◌, ℕ, List, length}
use Rattle.std.proofs.lemmas.List.{length-append, append_assoc, append-nil, take_at, drop_at, take_rest}
use Rattle.std.specs.Prelude.{take, drop}
use Rattle.lines.specs.Parts.{CutAt, bar}

front_again : (p q : List ℕ) {text : List ℕ} → text ≡ p ++ q → take (length text - length q) text ++ q ≡ text
front_again p q e = subst (λ t. take (length t - length q) t ++ q ≡ t) (sym e)
    (ap (λ x. x ++ q) (take_at p q (length (p ++ q) - length q) (omega (arith, length-append p q))))

rest_again : (p q : List ℕ) {text : List ℕ} → text ≡ p ++ q → p ++ take (length text - length p) (drop (length p) text) ≡ text
rest_again p q e = subst (λ t. p ++ take (length t - length p) (drop (length p) t) ≡ t) (sym e)
    (ap (λ x. p ++ x) (take_rest (p ++ q) (length p) ∙ drop_at p q (length p) refl))

pub to_cut : {text a b : List ℕ} → CutAt bar text a b → take (length text - length b) text ++ b ≡ text
to_cut {text} {a} {b} (inl e) = front_again (a ++ bar) b (e ∙ sym (append_assoc a bar b))
to_cut {text} {a} {b} (inr (e, none)) = front_again text b (sym (append-nil text) ∙ ap (λ x. text ++ x) (sym none))

pub from_cut : {text a b : List ℕ} → CutAt bar text a b → a ++ take (length text - length a) (drop (length a) text) ≡ text
from_cut {text} {a} {b} (inl e) = rest_again a (bar ++ b) e
from_cut {text} {a} {b} (inr (e, none)) = rest_again a b (e ∙ sym (append-nil a) ∙ ap (λ x. a ++ x) (sym none))
