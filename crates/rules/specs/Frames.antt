-- Where a sequence stands in a plan, and what document 01's order finds there and behind it. The order looks into the sequences as their
-- `[` come. So what it finds behind a sequence is inside the blocks that follow the sequence's own block, or else behind the sequence
-- around that block. Then comes the rule of an operator, as it stands in a sequence. Last comes a sequence without what its blocks hold.
-- The choice of a ready operator sees no more of it.
use Rattle.std.specs.Prelude.{◌≡◌}
use Rattle.std.specs.Prelude.{Option, None}
use Rattle.plan.specs.Options.{◌else◌, under}
use Rattle.plan.specs.declared.Operator.{Operator}
use Rattle.plan.specs.declared.Operator.TheVariants.{A as op_a, B as op_b, C as op_c, D as op_d}
use Rattle.plan.specs.Plan.{Plan, end, operator, token, block, ◌then◌}
use Rattle.rules.specs.Rewriting.{inner, next}

-- What stands around a sequence: nothing; or the block whose inside it is, the items before that block and
-- behind it, and what stands around those.
pub data Frame (L : Type 0) : Type 0 where
  top : Frame L
  within : (before : Plan L) → L → Frame L → (after : Plan L) → Frame L

-- the plan that has the sequence there
unfoldable pub plug : {L : Type 0} → Frame L → Plan L → Plan L
plug top q = q
plug (within before l out after) q = plug out (before then block l q after)

-- the rewrite that the order finds behind the sequence q, if there is one
unfoldable pub beyond : {L : Type 0} → Frame L → Plan L → Option (Plan L)
beyond top q = None
beyond (within before l out after) q =
    under (λ p. plug out (before then block l q p)) (inner after) else beyond out (before then block l q after)

-- the plan t has the sequence q there, and nothing before it is ready: the next rewrite is one of q's, or behind q
pub record Ahead {L : Type 0} (t : Plan L) (f : Frame L) (q : Plan L) : Type 0 where
  pub there : t ≡ plug f q
  pub first : next t ≡ under (plug f) (next q) else beyond f q

-- .. and no operator of the sequence's own is ready, and none inside the items d: the next rewrite is inside the items z, or behind them
pub record Inside {L : Type 0} (t : Plan L) (f : Frame L) (d z : Plan L) : Type 0 where
  pub there : t ≡ plug f (d then z)
  pub first : next t ≡ under (λ v. plug f (d then v)) (inner z) else beyond f (d then z)

-- The four rules as they stand in a sequence, by the operator. `lead` is the block that it takes beside the one right before it. `made` is
-- what it makes of the contents B and A of its blocks, with p behind them. The operators c and d take no block [B].
abbrev pub lead : {L : Type 0} → Operator → (l : L) → (B : Plan L) → Plan L
lead op_a l B = block l B end
lead op_b l B = block l B end
lead op_c l B = end
lead op_d l B = end

abbrev pub rule_makes : {L : Type 0} → Operator → (l : L) → (B : Plan L) → (m : L) → (A p : Plan L) → Plan L
rule_makes op_a l B m A p = A then block l B p
rule_makes op_b l B m A p = block m (block l B A) p
rule_makes op_c l B m A p = block m A (block m A p)
rule_makes op_d l B m A p = p

-- in the sequence q the operator o comes behind its blocks, with X before them and p behind it, and its rule makes q' of q
pub record Rule {L : Type 0} (o : Operator) (l m n : L) (X p q q' : Plan L) : Type 0 where
  pub older : Plan L
  pub newer : Plan L
  pub is : q ≡ X then (lead o l older then block m newer (operator n o p))
  pub gives : q' ≡ X then rule_makes o l older m newer p

-- the sequence with the contents of its own blocks taken out
unfoldable pub hollow : {L : Type 0} → Plan L → Plan L
hollow end = end
hollow (operator l o p) = operator l o (hollow p)
hollow (token l t p) = token l t (hollow p)
hollow (block l b p) = block l end (hollow p)
