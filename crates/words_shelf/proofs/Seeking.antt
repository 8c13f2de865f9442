-- Looking for the word that a token names, the newest first.
use Prim.Native.Nat.{ℕ, zero, suc, ◌+◌, ◌-◌, ◌≤◌}
use Rattle.std.specs.Prelude.{Option, Some, None}
use mathlib.Core.Path.{◌≡◌, refl, ap, ap₂, sym, subst, ◌∙◌}
use mathlib.Core.List.{List, [], ◌∷◌, ◌++◌, append_assoc}
use native.Mathlib.Omega.{arith}
use borrow.Author.Tests.{ne_eqb}
use lib.ListN.{length, take, drop, get_or, length-append, length-drop, length-take, take-append-drop}
use lib.Seq.{drop-drop, get_or-drop, take-append_seam}
use Rattle.plan.specs.Plan.{open_brace, close_brace}
use Rattle.kinds.specs.declared.Token.{Token}
use Rattle.plan.specs.Pieces.{Piece as PlanPiece, TOKEN}
use Rattle.kinds.proofs.Tests.{never}
use Rattle.pieces.specs.Written.{Is, TokenAt, is_close, is_open, is_operator, is_token}
use Rattle.pieces.specs.declared.Piece.{Piece}
use Rattle.pieces.specs.declared.Piece.TheVariants.{Token as Tok}
use Rattle.stored.specs.Same.{same}
use Rattle.stored.proofs.Same.{same_false, same_true}
use Rattle.words_meaning.specs.Linking.{percent}
use Rattle.words_shelf.specs.Words.{word_of}
use Rattle.words_shelf.specs.declared.WordAt.{WordAt}
use Rattle.words_shelf.specs.Shelf.{TokenStands, seek, seek_piece}

module _ (list : List ℕ) (words : List WordAt) (name : List ℕ) where
  -- the word just below a rank has the name, or the words before it are asked
  module _ {rank k : ℕ} (e : suc k ≡ rank) {found : List ℕ} (is : found ≡ (word_of list words k).name) where
    pub seek-here : found ≡ name → Some k ≡ seek list words rank (percent ∷ name)
    unfolding seek same
    seek-here h =
        sym (rw (same_true name (word_of list words k).name (sym h ∙ is)) refl) ∙ ap (λ n. seek list words n (percent ∷ name)) e

    pub seek_on : (found ≡ name → ⊥) → seek list words rank (percent ∷ name) ≡ seek list words k (percent ∷ name)
    unfolding seek same
    seek_on h =
        ap (λ n. seek list words n (percent ∷ name)) (sym e) ∙ rw (same_false name (word_of list words k).name (λ q. h (is ∙ sym q))) refl

  pub seek_none : {rank : ℕ} → rank ≤ 0 → None ≡ seek list words rank (percent ∷ name)
  unfolding seek
  seek_none {rank} h = let e : 0 ≡ rank = omega arith in ap (λ n. seek list words n (percent ∷ name)) e

-- a token whose text does not begin with `%` names none
module _ (list : List ℕ) (words : List WordAt) where
  other : (n b : ℕ) (t : List ℕ) → (b ≡ percent → ⊥) → seek list words n (b ∷ t) ≡ None
  unfolding seek same
  other zero b t h = refl
  other (suc n) b t h = rw (ne_eqb b percent h) (other n b t h)

  nothing : (n : ℕ) → seek list words n [] ≡ None
  unfolding seek same
  nothing zero = refl
  nothing (suc n) = nothing n

  -- a token of a text: behind its `{` stands `%`, and then the name that is looked for
  module _ (n : ℕ) (text : List ℕ) (at len : ℕ) (t : List ℕ) (stands : TokenAt text at len t) where
    rest : List ℕ
    rest = close_brace ∷ drop len (drop at text)

    token_long : len ≡ length t + 2
    token_long =
        let short = stands.0 in
        omega (arith, ap length stands.1, length-take len (drop at text), length-drop at text, length-append t (close_brace ∷ []))

    pub token_size : 2 ≤ len
    token_size = omega (arith, token_long)

    shape : drop at text ≡ open_brace ∷ (t ++ rest)
    unfolding rest
    shape = sym (take-append-drop len (drop at text)) ∙ ap (◌++ drop len (drop at text)) stands.1 ∙ ap (open_brace ∷◌) (append_assoc t (close_brace ∷ []) (drop len (drop at text)))

    second : get_or text (at + 1) 0 ≡ get_or (t ++ rest) 0 0
    second = sym (get_or-drop at text 1 0) ∙ ap (λ l. get_or l 1 0) shape

    pub seek_other : (get_or text (at + 1) 0 ≡ percent → ⊥) → None ≡ seek list words n t
    seek_other h = sym (go t second)
      where
        go : (u : List ℕ) → get_or text (at + 1) 0 ≡ get_or (u ++ rest) 0 0 → seek list words n u ≡ None
        go [] e = nothing n
        go (b ∷ u) e = other n b u (λ q. h (e ∙ q))

    pub name_long : get_or text (at + 1) 0 ≡ percent → 3 ≤ len
    unfolding rest
    name_long h = go t second token_long
      where
        go : (u : List ℕ) → get_or text (at + 1) 0 ≡ get_or (u ++ rest) 0 0 → len ≡ length u + 2 → 3 ≤ len
        go [] e l = absurd (let z : ◌≡◌ {A = ℕ} 125 37 = sym e ∙ h in omega arith)
        go (b ∷ u) e l = omega arith

    pub seek_token : {r : Option ℕ} → get_or text (at + 1) 0 ≡ percent → r ≡ seek list words n (percent ∷ take (at + len - 1 - (at + 2)) (drop (at + 2) text)) → r ≡ seek list words n t
    unfolding rest
    seek_token {r} h e = e ∙ ap (seek list words n) (go t second token_long shape)
      where
        go : (u : List ℕ) → get_or text (at + 1) 0 ≡ get_or (u ++ rest) 0 0 → len ≡ length u + 2 → drop at text ≡ open_brace ∷ (u ++ rest)
            → percent ∷ take (at + len - 1 - (at + 2)) (drop (at + 2) text) ≡ u
        go [] q l is = absurd (let z : ◌≡◌ {A = ℕ} 125 37 = sym q ∙ h in omega arith)
        go (b ∷ u) q l is =
            let size : at + len - 1 - (at + 2) ≡ length u = omega arith in
            let behind : drop (at + 2) text ≡ u ++ rest = sym (drop-drop 2 at text) ∙ ap (drop 2) is in
            ap₂ ◌∷◌ (sym h ∙ q) (ap₂ take size behind ∙ take-append_seam u rest)

-- a piece names what its token names, and only a token names any
module _ {text : List ℕ} where
  pub none_named : {x : PlanPiece ℕ} (list : List ℕ) (words : List WordAt) (n : ℕ) {k : Piece} → Is text k x → ((j : Token) → k ≡ Tok j → ⊥) → None ≡ seek_piece list words n x
  none_named list words n is_operator h = refl
  none_named list words n (is_token s) h = absurd (h _ refl)
  none_named list words n is_open h = refl
  none_named list words n is_close h = refl

  token_is : {x : PlanPiece ℕ} {k : Piece} {j : Token} → Is text k x → k ≡ Tok j → (l : ℕ) × (t : List ℕ) × (x ≡ TOKEN l t) × TokenAt text j.at.0 j.len t
  token_is is_operator e = never cc
  token_is {j = j} (is_token {l = l} {k = i} {t = t} s) e = let same : i ≡ j = cc in (l, t, refl, subst (λ (z : Token). TokenAt text z.at.0 z.len t) same s)
  token_is is_open e = never cc
  token_is is_close e = never cc

  pub token_names : {x : PlanPiece ℕ} (list : List ℕ) (words : List WordAt) (n : ℕ) {k : Piece} {j : Token} {r : Option ℕ} → Is text k x → k ≡ Tok j
      → ((t : List ℕ) → TokenAt text j.at.0 j.len t → r ≡ seek list words n t) → r ≡ seek_piece list words n x
  token_names list words n is e h = let (l, t, same, s) = token_is is e in h t s ∙ ap (seek_piece list words n) (sym same)

  pub token_stands : {x : PlanPiece ℕ} {k : Piece} {j : Token} → Is text k x → k ≡ Tok j → TokenStands text j
  token_stands is e = let (l, t, same, s) = token_is is e in (t, s)
