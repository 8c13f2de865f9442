-- What the next byte of a token says, each case one equation: the token goes on, ends, or has its first fault here. The reader's laws tie
-- this to the first fault of a token.
use Rattle.std.specs.Prelude.{ℕ, ◌+◌, ◌-◌, cond, List, leb, eqb, length, get_or, drop, Option, Some, None, Ok, Err}
use Rattle.plan.specs.Plan.{open_brace, close_brace}
use Rattle.plan.specs.Token.{character, may_hold}
use Rattle.plan.specs.Reading.{place}
use Rattle.plan.specs.declared.Character.{Character}
use Rattle.plan.specs.declared.TokenFault.{TokenFault}
use Rattle.plan.specs.declared.TokenFault.TheVariants.{Empty, Long, BadUtf8, Forbidden, InnerBrace}
use Rattle.tokens.specs.declared.InToken.{InToken}
use Rattle.tokens.specs.declared.InToken.TheVariants.{Further, Ends}

-- a token's fault ends its reading, at the fault's own place
abbrev pub token_faulty : TokenFault → (at : ℕ) → InToken
token_faulty f at = Ends (Err (record { fault = f; at = place at }))

-- A character that begins before `last`, the last byte that the token may have, which has to be its `}`. The character has a fault of its
-- own, or it reaches that byte, or the token goes on behind it.
unfoldable pub in_character : (last at : ℕ) → Option Character → InToken
in_character last at None = token_faulty BadUtf8 at
in_character last at (Some c) =
    cond (eqb c.value open_brace) (token_faulty InnerBrace at)
    (cond (may_hold c.value) (cond (leb last (at + (c.width - 1))) (token_faulty Long last) (Further c.width)) (token_faulty Forbidden at))

-- the next byte of the token whose `{` is at `start`
unfoldable pub in_token : (limit start at : ℕ) → List ℕ → InToken
in_token limit start at text =
    let last = start + (limit - 1) in
    cond (leb (length text) at) (token_faulty Long (length text))
    (cond (eqb (get_or text at 0) close_brace) (cond (eqb at (start + 1)) (token_faulty Empty at) (Ends (Ok tt)))
    (cond (eqb at last) (token_faulty Long at) (in_character last at (character (drop at text)))))
