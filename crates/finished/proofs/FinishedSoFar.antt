-- The walk that looks for a ready operator. None is among the pieces passed. So one is in the plan exactly where one is among the pieces to
-- come, with so many blocks right before these and with these bits of the open blocks.
use Prim.Native.Nat.{ℕ, zero, suc, ◌+◌, ◌-◌, ◌≤◌, ◌<◌}
use mathlib.Core.Path.{◌≡◌, refl, ap, sym, subst, ◌∙◌}
use mathlib.Core.Bool.{Bool, true, false, ◌||◌}
use mathlib.Core.List.{List, [], ◌∷◌}
use native.Mathlib.Omega.{arith}
use borrow.Author.Tests.{le-leb, not-true, not-false}
use lib.Dec.{ltb}
use lib.ListN.{length, drop, get_or, set, length-set}
use Rattle.kinds.specs.Limits.{cell_limit, token_limit}
use Rattle.kinds.specs.declared.Token.{Token as TextToken}
use Rattle.plan.specs.Pieces.{Piece as PlanPiece, END, Closes, Shows, pieces, piece_labels}
use Rattle.plan.specs.Plan.{Plan}
use Rattle.plan.specs.declared.Operator.{Operator as PlanOperator}
use Rattle.plan.proofs.Pieces.{cells-pieces, closes_pieces}
use Rattle.rules.specs.Leftmost.{takes}
use Rattle.rules.specs.Rewriting.{finished}
use Rattle.pieces.specs.declared.Piece.{Piece}
use Rattle.pieces.specs.declared.Piece.TheVariants.{Operator, Token, Open, Close}
use Rattle.items.specs.Walk.{Passed, ShowsAhead}
use Rattle.items.proofs.Walking.{passed_ahead}
use Rattle.finished.specs.ShowsPlan.{ShowsPlan}
use Rattle.finished.specs.AnyReady.{blocks_behind, any_ready}
use Rattle.finished.proofs.AnyReady.{ready_unless-finished}
use Rattle.finished.proofs.Turning.{Like, Turned, close_turned, kept, like, open_turned, operator_turned, token_turned}

pub record FinishedSoFar (text : List ℕ) (at blocks : ℕ) (second : List Bool) (deep : ℕ) : Type 0 where
  pub ahead : ShowsAhead text at
  pub long : length second ≡ cell_limit
  pub closes : Closes deep ahead.come
  pub room : deep + length (piece_labels ahead.come) ≤ cell_limit
  pub each : (ps : List (PlanPiece ℕ)) → Shows token_limit 0 text ps
      → (qs : List (PlanPiece ℕ)) × Shows token_limit at (drop at text) qs × (any_ready 0 [] ps ≡ any_ready blocks (kept second deep) qs)

pub finished-first : {text : List ℕ} {second : List Bool} → length second ≡ cell_limit → ShowsPlan text → FinishedSoFar text 0 0 second 0
finished-first long s =
    record {
      ahead = record { short = s.short; come = pieces s.plan; shows = s.shows };
      long = long;
      closes = closes_pieces s.plan;
      room = omega (arith, s.fits, cells-pieces s.plan);
      each = λ ps shows. (ps, shows, refl);
    }

module _ {text : List ℕ} {at blocks : ℕ} {second : List Bool} {deep : ℕ} (f : FinishedSoFar text at blocks second deep) where
  pub finished_end : ((qs : List (PlanPiece ℕ)) → Shows token_limit at (drop at text) qs → qs ≡ [])
      → (p : Plan ℕ) → Shows token_limit 0 text (pieces p) → true ≡ finished p
  unfolding any_ready
  finished_end none p s =
      let (qs, shows, same) = f.each (pieces p) s in
      sym (not-false (finished p) (sym (ready_unless-finished p) ∙ same ∙ ap (any_ready blocks (kept second deep)) (none qs shows)))

  module _ {k : Piece} {place rest : ℕ} (passed : (qs : List (PlanPiece ℕ)) → Shows token_limit at (drop at text) qs → Passed text at k place rest qs) where
    first-like : {qs : List (PlanPiece ℕ)} {y : Piece} → k ≡ y → (p : Passed text at k place rest qs) → Like y p.first
    first-like e p = subst (λ (z : Piece). Like z p.first) e (like p.is)

    -- the walk goes on behind the piece
    turn : {y : Piece} {blocks' : ℕ} {second' : List Bool} {deep' : ℕ} → k ≡ y → length second' ≡ cell_limit
        → ((ps : List (PlanPiece ℕ)) (x : PlanPiece ℕ) → Like y x → Turned blocks second deep x ps blocks' second' deep')
        → FinishedSoFar text rest blocks' second' deep'
    turn e long turned =
        let here = passed f.ahead.come f.ahead.shows in
        let t = turned here.later here.first (first-like e here) in
        record {
          ahead = passed_ahead f.ahead here;
          long = long;
          closes = t.closes (subst (Closes deep) here.parts f.closes);
          room = omega (arith, t.room, f.room, ap (λ ps. length (piece_labels ps)) here.parts);
          each = λ ps s.
              let (qs, shows, same) = f.each ps s in
              let p = passed qs shows in
              (p.later, p.shows, same ∙ ap (any_ready blocks (kept second deep)) p.parts ∙ (turned p.later p.first (first-like e p)).same);
        }

    module _ {o : PlanOperator} (e : k ≡ Operator o) where
      -- an operator that takes no more blocks than come right before it is ready
      pub finished-not : takes o ≤ blocks → (p : Plan ℕ) → Shows token_limit 0 text (pieces p) → false ≡ finished p
      unfolding any_ready
      finished-not h p s =
          let (qs, shows, same) = f.each (pieces p) s in
          let q = passed qs shows in
          let (l, is) = first-like e q in
          let ready : any_ready blocks (kept second deep) qs ≡ true =
          ap (any_ready blocks (kept second deep)) (q.parts ∙ ap (◌∷ q.later) is) ∙ ap (◌|| any_ready 0 (kept second deep) q.later) (le-leb (takes o) blocks h) in
          sym (not-true (finished p) (sym (ready_unless-finished p) ∙ same ∙ ready))

      pub finished_operator : blocks < takes o → FinishedSoFar text rest 0 second deep
      finished_operator h = turn e f.long (λ ps. operator_turned blocks second deep ps o h)

    pub finished_token : {t : TextToken} → k ≡ Token t → FinishedSoFar text rest 0 second deep
    finished_token {t} e = turn e f.long (λ ps. token_turned blocks second deep ps t)

    module _ (e : k ≡ Open) where
      -- a block more can be open: it is a cell of the plan
      pub finished_deep : deep < cell_limit
      unfolding piece_labels
      finished_deep =
          let here = passed f.ahead.come f.ahead.shows in
          let (l, is) = first-like e here in
          omega (arith, f.room, ap (λ ps. length (piece_labels ps)) (here.parts ∙ ap (◌∷ here.later) is))

      pub finished_open : FinishedSoFar text rest 0 (set second deep (ltb 0 blocks)) (deep + 1)
      finished_open =
          turn e (length-set second deep (ltb 0 blocks) ∙ f.long) (λ ps. open_turned blocks second deep ps (omega (arith, f.long, finished_deep)))

    module _ (e : k ≡ Close) where
      -- a plan's `]` ends an open block
      pub finished_within : (0 < deep) × (deep ≤ cell_limit)
      finished_within =
          let here = passed f.ahead.come f.ahead.shows in
          (ends deep here.later (subst (Closes deep) (here.parts ∙ ap (◌∷ here.later) (first-like e here)) f.closes), omega (arith, f.room))
        where
          ends : (d : ℕ) (ps : List (PlanPiece ℕ)) → Closes d (END ∷ ps) → 0 < d
          ends zero ps c = absurd c
          ends (suc d) ps c = omega arith

      pub finished-close : (b : Bool) → get_or second (deep - 1) false ≡ b → FinishedSoFar text rest (blocks_behind b) second (deep - 1)
      finished-close b is = turn e f.long (λ ps. close_turned blocks second deep ps b is finished_within.0 (omega (arith, f.long, finished_within.1)))
