-- Each step of the builder keeps `Building`. A step links the tail of the chain on to a port; where that port is a new
-- cell's, it first writes what that cell says, which no cell in use can see.
use Prim.Native.Nat.{ℕ, zero, suc, ◌+◌, ◌*◌, ◌/◌, ◌≤◌, ◌<◌}
use mathlib.Core.Path.{◌≡◌, refl, ap, sym, ◌∙◌, subst, subst₂}
use mathlib.Core.Logic.{◌≢◌, ⊎_elim, inl, inr}
use mathlib.Core.List.{List, [], ◌∷◌, ◌++◌, append_assoc, append-nil}
use native.Mathlib.Omega.{arith}
use native.Mathlib.Decide.{dec_lt}
use lib.ListN.{length, set, length-set}
use lib.Seq.{get_or-set_same, get_or-set_other}
use Rattle.kinds.specs.Limits.{cell_numbers}
use Rattle.plan.specs.Plan.{Plan, end, operator, token, block, ◌then◌, labels}
use Rattle.pieces.specs.Numbered.{operator_number}
use Rattle.plan.specs.declared.Operator.{Operator}
use Rattle.plan.specs.Reading.{Around, outermost, inside}
use Rattle.plan.specs.Pieces.{seen}
use Rattle.plan.proofs.Pieces.{seen-then}
use Rattle.pieces.specs.Written.{TokenAt}
use Rattle.memory.specs.Memory.{start, close, datum, link, token_kind, block_kind, ports, Linked, Says, Free, Below, Absent, Distinct, Shared, Holds, HoldsIn, innermost, KeepsOuter, ports_so_far, SaysSoFar, last_of, Building}
use Rattle.memory.proofs.Lists.{absent_join, absent_split, below_split, below_absent, distinct_split, not_before, not_behind, last_append, last_in, linked_beside, linked_on}
use Rattle.memory.proofs.Ports.{so_far-then, so_far-says-then, so_far_absent, so_far_distinct, close_absent, so_far-says-beside, keeps_beside, Loose, start_loose, last_loose, so_far-says-link, keeps_link}
use Rattle.memory.proofs.Sharing.{room_free, none_free, shared_beside, shared_distinct, shared_used, shared_take, free_absent}

-- the start: every cell is free, in order

from : ℕ → ℕ → List ℕ
from i zero = []
from i (suc k) = i ∷ from (suc i) k

from_free : (w : List ℕ) (n i k : ℕ) → i + k ≡ n → ((j : ℕ) → j < n → link w (start j) ≡ j + 1) → Free w i (from i k) n
unfolding from
from_free w n i zero e h = omega arith
from_free w n i (suc k) e h =
    (refl, subst (λ f. Free w f (from (suc i) k) n) (let next = h i (omega arith) in omega arith) (from_free w n (suc i) k (omega arith) h))

from_below : (n i k : ℕ) → i + k ≤ n → Below n (from i k)
unfolding from
from_below n i zero h = tt
from_below n i (suc k) h = (omega arith, from_below n (suc i) k (omega arith))

from_absent : (j i k : ℕ) → j < i → Absent j (from i k)
unfolding from
from_absent j i zero h = tt
from_absent j i (suc k) h = (omega arith, from_absent j (suc i) k (omega arith))

from_distinct : (i k : ℕ) → Distinct (from i k)
unfolding from
from_distinct i zero = tt
from_distinct i (suc k) = (from_absent i (suc i) k (omega arith), from_distinct (suc i) k)

from_length : (i k : ℕ) → length (from i k) ≡ k
unfolding from
from_length i zero = refl
from_length i (suc k) = ap suc (from_length (suc i) k)

pub begin : (text : List ℕ) (n : ℕ) (w : List ℕ) → length w ≡ cell_numbers * n + 2 → ((i : ℕ) → i < n → link w (start i) ≡ i + 1)
    → Building text n w n [] (start n) n 0 outermost end
unfolding ports_so_far ports seen labels
begin text n w room h =
    record {
      rooted = inl refl;
      chain = tt;
      at_tail = refl;
      at_open = refl;
      keeps = tt;
      says = tt;
      shared =
          record {
            spare = from 0 n;
            frees = from_free w n 0 n (omega arith) h;
            below = from_below n 0 n (omega arith);
            distinct = from_distinct 0 n;
            all = from_length 0 n;
            room = room;
          };
    }

-- the start inside a cell in use
pub begin_in : {text : List ℕ} {n : ℕ} {w : List ℕ} {root : ℕ} {others : List ℕ} {free : ℕ} → ¬ Absent root others → Shared n w free others
    → Building text n w root others (start root) root free outermost end
unfolding ports_so_far ports seen labels
begin_in {n = n} {w = w} {others = others} {free = free} m s =
    record {
      rooted = inr m;
      chain = tt;
      at_tail = refl;
      at_open = refl;
      keeps = tt;
      says = tt;
      shared = subst (Shared n w free) (sym (append-nil others)) s;
    }

-- the tail

last-here : (root : ℕ) (out : Around) (here : Plan ℕ) → last_of (start root) (ports_so_far out here) ≡ last_of (start (innermost root out)) (ports here)
unfolding ports_so_far
last-here root outermost here = refl
last-here root (inside c before out) here = last_append (start root) (start c) (ports_so_far out before) (ports here)

says_here : (text w : List ℕ) (out : Around) (here : Plan ℕ) → SaysSoFar text w out here → Says text w here
says_here text w outermost here h = h
says_here text w (inside c before out) here h = h.2

-- a close that is the last port of the sequence here is that of a block in it, and of none around it
around_absent : (root c : ℕ) (out : Around) (here : Plan ℕ) → Distinct (seen out here)
    → last_of (start (innermost root out)) (ports here) ≡ close c → Absent c (seen out end)
unfolding seen labels
around_absent root c outermost here d e = tt
around_absent root c (inside l before out) here d e =
    let last : ¬ Absent (close c) (start l ∷ ports here) = subst (λ p. ¬ Absent p (start l ∷ ports here)) e (last_in (start l) (ports here)) in
    let within : ¬ Absent c (labels here) = λ h. last (omega arith, close_absent c here h) in
    let apart = (distinct_split (seen out before) (l ∷ labels here) d).1.0 in
    absent_join c (seen out before) (l ∷ []) (not_before c (seen out before) (l ∷ labels here) d (λ h. within h.1))
    (λ z. within (subst (λ x. Absent x (labels here)) (sym z) apart), tt)

module _ {text : List ℕ} {n : ℕ} {w : List ℕ} {root : ℕ} {others : List ℕ} {tail opened free : ℕ} {out : Around} {here : Plan ℕ}
    (b : Building text n w root others tail opened free out here) where
  pub has_room : length (others ++ seen out here) < n → free < n
  has_room = room_free b.shared

  pub none_left : length (others ++ seen out here) ≡ n → free ≡ n
  none_left = none_free b.shared

  -- cell number n and the cells in use elsewhere, the cells built and the free ones, each once
  pub all_distinct : Distinct ((n ∷ others) ++ (seen out here ++ b.shared.spare))
  all_distinct =
      subst (λ cs. Distinct (n ∷ cs)) (append_assoc others (seen out here) b.shared.spare) (shared_distinct b.shared)

  built_distinct : Distinct (seen out here)
  built_distinct =
      (distinct_split (seen out here) b.shared.spare (distinct_split (n ∷ others) (seen out here ++ b.shared.spare) all_distinct).1).0

  used_below : Below n others × Below n (seen out here)
  used_below = below_split n others (seen out here) (below_split n (others ++ seen out here) b.shared.spare b.shared.below).0

  pub free_apart : free < n → Absent free (n ∷ others) × Absent free (seen out here)
  free_apart h = let r = absent_split free others (seen out here) (free_absent b.shared h) in ((omega arith, r.0), r.1)

  -- the root is in use, and no cell of what is built

  root_in : ¬ Absent root (n ∷ others)
  root_in h = ⊎_elim h.0 (λ m. m h.1) b.rooted

  pub root_low : root ≤ n
  root_low = go (dec_lt n root)
    where
      go : Dec (n < root) → root ≤ n
      go (yes h) = absurd (root_in (omega arith, below_absent n root others (omega arith) used_below.0))
      go (no h) = omega arith

  root_absent : Absent root (seen out here)
  root_absent =
      (absent_split root (seen out here) b.shared.spare (not_behind root (n ∷ others) (seen out here ++ b.shared.spare) all_distinct root_in)).0

  root_elsewhere : free < n → root ≢ free
  root_elsewhere h e = root_in (subst (λ c. Absent c (n ∷ others)) (sym e) (free_apart h).0)

  -- the tail is a port of the root or of what is built

  in_chain : ¬ Absent tail (start root ∷ ports_so_far out here)
  in_chain h =
      last_in (start root) (ports_so_far out here) (subst (λ p. Absent p (start root ∷ ports_so_far out here)) (sym b.at_tail) h)

  pub tail_built : tail ≢ start root → ¬ Absent (tail / 2) (seen out here)
  tail_built other h = in_chain (other, so_far_absent tail out here h)

  tail-used : ¬ Absent (tail / 2) (n ∷ (others ++ seen out here))
  tail-used h =
      let r = absent_split (tail / 2) others (seen out here) h.1 in
      tail_built (λ e. root_in (subst (λ c. Absent c (n ∷ others)) (omega arith) (h.0, r.0))) r.1

  tail_elsewhere : free < n → tail / 2 ≢ free
  tail_elsewhere h e = tail-used (omega arith, subst (λ c. Absent c (others ++ seen out here)) (sym e) (free_absent b.shared h))

  pub tail_within : 2 * tail + 1 < length w
  tail_within = go (dec_lt (2 * tail + 1) (length w))
    where
      go : Dec (2 * tail + 1 < length w) → 2 * tail + 1 < length w
      go (yes h) = h
      go (no h) =
          let room = b.shared.room in
          let low = root_low in
          absurd (tail_built (omega arith) (below_absent n (tail / 2) (seen out here) (omega arith) used_below.1))

  tail_loose : Loose w tail
  tail_loose =
      subst (Loose w) (sym (last-here root out here) ∙ b.at_tail)
      (last_loose text w (start (innermost root out)) here (start_loose w (innermost root out)) (says_here text w out here b.says))

-- the tail linked on to a port: what holds of the numbers then
record LinkedOn (text : List ℕ) (n : ℕ) (w : List ℕ) (root : ℕ) (others : List ℕ) (free : ℕ) (out : Around) (here : Plan ℕ) (port : ℕ) : Type 0 where
  chain : Linked w (start root ∷ (ports_so_far out here ++ port ∷ []))
  keeps : KeepsOuter root w out
  says : SaysSoFar text w out here
  shared : Shared n w free (others ++ seen out here)

module _ {text : List ℕ} {n : ℕ} {w : List ℕ} {root : ℕ} {others : List ℕ} {tail opened free : ℕ} {out : Around} {here : Plan ℕ}
    (b : Building text n w root others tail opened free out here) where
  link-tail : (port : ℕ) → LinkedOn text n (set w (2 * tail + 1) port) root others free out here port
  link-tail port =
      let xs = ports_so_far out here in
      let outside = so_far_absent (start root) out here (subst (λ c. Absent c (seen out here)) (omega arith) (root_absent b)) in
      record {
        chain =
            subst (λ p. Linked (set w (2 * p + 1) port) (start root ∷ (xs ++ port ∷ []))) b.at_tail
            (linked_on w (start root) port xs (outside, so_far_distinct out here (built_distinct b))
            (subst (λ p. 2 * p + 1 < length w) (sym b.at_tail) (tail_within b)) b.chain);
        keeps =
            keeps_link root w out end tail port
            (λ c e. around_absent root c out here (built_distinct b) (sym (last-here root out here) ∙ b.at_tail ∙ e)) b.keeps;
        says = so_far-says-link text w out here tail port (tail_loose b) b.says;
        shared =
            shared_used b.shared (2 * tail + 1) port (subst (λ c. ¬ Absent c (n ∷ (others ++ seen out here))) (omega arith) (tail-used b));
      }

  -- what is written in the first free cell, beside the link of its start, changes nothing
  write_free : free < n → (i a : ℕ) → i / cell_numbers ≡ free → i ≢ 2 * start free + 1 → Building text n (set w i a) root others tail opened free out here
  write_free h i a cell beside =
      let unused : Absent (i / cell_numbers) (seen out here) = subst (λ c. Absent c (seen out here)) (sym cell) (free_apart b h).1 in
      let other = root_elsewhere b h in
      record {
        rooted = b.rooted;
        chain =
            linked_beside w (start root ∷ ports_so_far out here) i a
            (λ p e. (omega arith, so_far_absent p out here (subst (λ c. Absent c (seen out here)) (omega arith) unused))) b.chain;
        at_tail = b.at_tail;
        at_open = b.at_open;
        keeps = keeps_beside root w out here i a unused b.keeps;
        says = so_far-says-beside text w out here i a unused b.says;
        shared = shared_beside b.shared i a (λ c e. absurd (omega arith));
      }

  -- one new cell at the tail, where w says it already
  new_cell : free < n → (opened' : ℕ) (out' : Around) (here' : Plan ℕ) (next : ℕ)
      → ports_so_far out' here' ≡ ports_so_far out here ++ start free ∷ [] → seen out' here' ≡ seen out here ++ free ∷ []
      → innermost root out' ≡ opened' → link w (start free) ≡ next → SaysSoFar text w out' here'
      → (KeepsOuter root (set w (2 * tail + 1) (start free)) out → KeepsOuter root (set w (2 * tail + 1) (start free)) out')
      → Building text n (set w (2 * tail + 1) (start free)) root others (start free) opened' next out' here'
  new_cell h opened' out' here' next p l o f s k =
      let v = set w (2 * tail + 1) (start free) in
      let on = link-tail (start free) in
      let other = tail_elsewhere b h in
      let in_use = ap (others ++◌) l ∙ sym (append_assoc others (seen out here) (free ∷ [])) in
      record {
        rooted = b.rooted;
        chain = subst (λ xs. Linked v (start root ∷ xs)) (sym p) on.chain;
        at_tail = ap (last_of (start root)) p ∙ last_append (start root) (start free) (ports_so_far out here) [];
        at_open = o;
        keeps = k on.keeps;
        says = so_far-says-link text w out' here' tail (start free) (tail_loose b) s;
        shared =
            subst₂ (λ x used. Shared n v x used) (get_or-set_other w (2 * tail + 1) (2 * start free + 1) (start free) 0 (omega arith) ∙ f) (sym in_use)
            (shared_take on.shared h);
      }

-- what a new cell says once its numbers are written

token_written : (text w : List ℕ) (c at len : ℕ) (t : List ℕ) → 2 * close c + 1 < length w → TokenAt text at len t
    → Says text (set (set (set w (2 * start c) token_kind) (2 * close c) at) (2 * close c + 1) len) (token c t end)
token_written text w c at len t h bytes =
    let w₁ = set w (2 * start c) token_kind in
    let w₂ = set w₁ (2 * close c) at in
    let same₁ = length-set w (2 * start c) token_kind in
    let same₂ = length-set w₁ (2 * close c) at in (
      get_or-set_other w₂ (2 * close c + 1) (2 * start c) len 0 (omega arith) ∙ get_or-set_other w₁ (2 * close c) (2 * start c) at 0 (omega arith)
          ∙ get_or-set_same w (2 * start c) token_kind 0 (omega arith),
      subst₂ (λ x y. TokenAt text x y t)
          (sym (get_or-set_other w₂ (2 * close c + 1) (2 * close c) len 0 (omega arith) ∙ get_or-set_same w₁ (2 * close c) at 0 (omega arith)))
          (sym (get_or-set_same w₂ (2 * close c + 1) len 0 (omega arith))) bytes,
      tt,
    )

block_written : (w : List ℕ) (c outer : ℕ) → 2 * close c + 1 < length w
    → (datum (set (set w (2 * start c) block_kind) (2 * close c + 1) outer) (start c) ≡ block_kind)
    × (link (set (set w (2 * start c) block_kind) (2 * close c + 1) outer) (close c) ≡ outer)
block_written w c outer h =
    let w₁ = set w (2 * start c) block_kind in
    let same = length-set w (2 * start c) block_kind in (
      get_or-set_other w₁ (2 * close c + 1) (2 * start c) outer 0 (omega arith) ∙ get_or-set_same w (2 * start c) block_kind 0 (omega arith),
      get_or-set_same w₁ (2 * close c + 1) outer 0 (omega arith),
    )

module _ {text : List ℕ} {n : ℕ} {w : List ℕ} {root : ℕ} {others : List ℕ} {tail opened free : ℕ} {out : Around} {here : Plan ℕ}
    (b : Building text n w root others tail opened free out here) (h : free < n) where
  pub put_operator : (o : Operator)
      → Building text n (set (set w (2 * start free) (operator_number o)) (2 * tail + 1) (start free))
      root others (start free) opened (link w (start free)) out (here then operator free o end)
  unfolding ports labels
  put_operator o =
      let w₁ = set w (2 * start free) (operator_number o) in
      let room = b.shared.room in
      let b₁ = write_free b h (2 * start free) (operator_number o) (omega arith) (omega arith) in
      let kind = get_or-set_same w (2 * start free) (operator_number o) 0 (omega arith) in
      new_cell b₁ h opened out (here then operator free o end) (link w (start free))
      (so_far-then out here (operator free o end)) (seen-then out here (operator free o end)) b.at_open
      (get_or-set_other w (2 * start free) (2 * start free + 1) (operator_number o) 0 (omega arith))
      (so_far-says-then text w₁ out here (operator free o end) b₁.says (kind, tt)) (λ k. k)

  pub put_token : (at len : ℕ) (t : List ℕ) → TokenAt text at len t
      → Building text n
      (set (set (set (set w (2 * start free) token_kind) (2 * close free) at) (2 * close free + 1) len) (2 * tail + 1) (start free))
      root others (start free) opened (link w (start free)) out (here then token free t end)
  unfolding ports labels
  put_token at len t bytes =
      let w₁ = set w (2 * start free) token_kind in
      let w₂ = set w₁ (2 * close free) at in
      let w₃ = set w₂ (2 * close free + 1) len in
      let b₁ = write_free b h (2 * start free) token_kind (omega arith) (omega arith) in
      let b₂ = write_free b₁ h (2 * close free) at (omega arith) (omega arith) in
      let b₃ = write_free b₂ h (2 * close free + 1) len (omega arith) (omega arith) in
      let room = b.shared.room in
      new_cell b₃ h opened out (here then token free t end) (link w (start free))
      (so_far-then out here (token free t end)) (seen-then out here (token free t end)) b.at_open
      (get_or-set_other w₂ (2 * close free + 1) (2 * start free + 1) len 0 (omega arith)
      ∙ get_or-set_other w₁ (2 * close free) (2 * start free + 1) at 0 (omega arith)
      ∙ get_or-set_other w (2 * start free) (2 * start free + 1) token_kind 0 (omega arith))
      (so_far-says-then text w₃ out here (token free t end) b₃.says (token_written text w free at len t (omega arith) bytes)) (λ k. k)

  pub open_block
      : Building text n (set (set (set w (2 * start free) block_kind) (2 * close free + 1) opened) (2 * tail + 1) (start free))
      root others (start free) free (link w (start free)) (inside free here out) end
  unfolding ports_so_far ports seen labels
  open_block =
      let w₁ = set w (2 * start free) block_kind in
      let w₂ = set w₁ (2 * close free + 1) opened in
      let b₁ = write_free b h (2 * start free) block_kind (omega arith) (omega arith) in
      let b₂ = write_free b₁ h (2 * close free + 1) opened (omega arith) (omega arith) in
      let room = b.shared.room in
      let written = block_written w free opened (omega arith) in
      let other = tail_elsewhere b h in
      let beside = get_or-set_other w₂ (2 * tail + 1) (2 * close free + 1) (start free) 0 (omega arith) in
      new_cell b₂ h free (inside free here out) end (link w (start free)) refl refl refl
      (get_or-set_other w₁ (2 * close free + 1) (2 * start free + 1) opened 0 (omega arith)
      ∙ get_or-set_other w (2 * start free) (2 * start free + 1) block_kind 0 (omega arith))
      (b₂.says, written.0, tt) (λ k. (beside ∙ written.1 ∙ sym b.at_open, k))

-- the innermost block is closed: the cell that its close keeps is the innermost again
close_cell : {text : List ℕ} {n : ℕ} {w : List ℕ} {root : ℕ} {others : List ℕ} {tail opened free c : ℕ} {before here : Plan ℕ} {out : Around}
    → Building text n w root others tail opened free (inside c before out) here
    → Building text n (set w (2 * tail + 1) (close c)) root others (close c) (link w (close c)) free out (before then block c here end)
unfolding ports_so_far ports seen labels
close_cell {text} {n} {w} {root} {others} {tail} {free = free} {c = c} {before = before} {here = here} {out = out} b =
    let v = set w (2 * tail + 1) (close c) in
    let on = link-tail b (close c) in
    let xs = ports_so_far out before ++ start c ∷ ports here in
    let regrouped = append_assoc (ports_so_far out before) (start c ∷ ports here) (close c ∷ []) in
    let p : ports_so_far out (before then block c here end) ≡ xs ++ close c ∷ [] = so_far-then out before (block c here end) ∙ sym regrouped in
    let nothing_behind = ap (λ us. seen out before ++ c ∷ us) (append-nil (labels here)) in
    let l : seen out (before then block c here end) ≡ seen out before ++ c ∷ labels here = seen-then out before (block c here end) ∙ nothing_behind in
    record {
      rooted = b.rooted;
      chain = subst (λ us. Linked v (start root ∷ us)) (sym p) on.chain;
      at_tail = ap (last_of (start root)) p ∙ last_append (start root) (close c) xs [];
      at_open = sym b.keeps.0;
      keeps = on.keeps.1;
      says = so_far-says-then text v out before (block c here end) on.says.0 (on.says.1, on.says.2, tt);
      shared = subst (λ used. Shared n v free (others ++ used)) (sym l) on.shared;
    }

pub close_block : {text : List ℕ} {n : ℕ} {w : List ℕ} {root : ℕ} {others : List ℕ} {tail opened free c : ℕ} {before here : Plan ℕ} {out : Around}
    → Building text n w root others tail opened free (inside c before out) here
    → Building text n (set w (2 * tail + 1) (close opened)) root others (close opened) (link w (close opened)) free out (before then block c here end)
close_block {text} {n} {w} {root} {others} {tail} {free = free} {c = c} {before = before} {here = here} {out = out} b =
    subst (λ o. Building text n (set w (2 * tail + 1) (close o)) root others (close o) (link w (close o)) free out (before then block c here end)) b.at_open (close_cell b)

-- the end of the sequence: the last port links to the root's own close
pub ended_in : {text : List ℕ} {n : ℕ} {w : List ℕ} {root : ℕ} {others : List ℕ} {tail opened free : ℕ} {here : Plan ℕ}
    → Building text n w root others tail opened free outermost here → HoldsIn text n (set w (2 * tail + 1) (close root)) root others free here
unfolding ports_so_far seen
ended_in {root = root} b = let on = link-tail b (close root) in record { chain = on.chain; says = on.says; shared = on.shared }

pub ended : {text : List ℕ} {n : ℕ} {w : List ℕ} {tail opened free : ℕ} {here : Plan ℕ}
    → Building text n w n [] tail opened free outermost here → Holds text n (set w (2 * tail + 1) (close n)) free here
ended b = let h = ended_in b in record { chain = h.chain; says = h.says; shared = h.shared }
