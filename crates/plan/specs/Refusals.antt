-- The table's rows 11 and 13 to 17, with 21 to 25 in place of 14. Its columns "given exactly when" and "place" are
-- said of the text itself and not of a reader.
use Rattle.std.specs.Prelude.{ℕ, suc, ◌+◌, ◌≤◌, ◌<◌, ◌≡◌, false, List, [], ◌∷◌, ◌++◌, length}
use Rattle.plan.specs.declared.Unread.{Unread}
use Rattle.plan.specs.declared.Unread.TheVariants.{Text, Overfull}
use Rattle.plan.specs.declared.TokenFault.{TokenFault}
use Rattle.plan.specs.declared.TextFault.{TextFault}
use Rattle.plan.specs.declared.TextFault.TheVariants.{TooLong, BadByte, BadToken, Unmatched, Unclosed}
use Rattle.plan.specs.Plan.{Operator, close_brace}
use Rattle.plan.specs.Token.{KeptToken, annotation}
use Rattle.plan.specs.TokenFaults.{FirstFault}
use Rattle.kinds.specs.Limits.{Limits}
use Rattle.plan.specs.Reading.{Class, OPERATOR, OPEN, CLOSE, BRACE, BLANK, BAD, Mark, class, place}

-- `Faultless limit d bs e k`: the bytes hold no fault where d blocks are open before them; e are open after them, and
-- k items begin among them.
pub data Faultless (limit : ℕ) : ℕ → List ℕ → ℕ → ℕ → Type 0 where
  nothing : {d : ℕ} → Faultless limit d [] d 0
  a_mark : {d e k b : ℕ} {m bs : List ℕ} → Mark limit b m → Faultless limit d bs e k → Faultless limit d (b ∷ (m ++ bs)) e k
  an_operator : {d e k b : ℕ} {o : Operator} {bs : List ℕ}
      → class b ≡ OPERATOR o → Faultless limit d bs e k → Faultless limit d (b ∷ bs) e (suc k)
  a_token : {d e k b : ℕ} {bs : List ℕ} (t : List ℕ)
      → class b ≡ BRACE → KeptToken limit t → Faultless limit d bs e k
      → Faultless limit d (b ∷ (t ++ close_brace ∷ bs)) e (suc k)
  opens : {d e k b : ℕ} {bs : List ℕ}
      → class b ≡ OPEN → Faultless limit (suc d) bs e k → Faultless limit d (b ∷ bs) e (suc k)
  closes : {d e k b : ℕ} {bs : List ℕ}
      → class b ≡ CLOSE → Faultless limit d bs e k → Faultless limit (suc d) (b ∷ bs) e k

-- the faults of one byte at the place `at`, with d blocks open and `rest` after it
pub data Fault (limit at : ℕ) (b : ℕ) (rest : List ℕ) : ℕ → TextFault → Type 0 where
  bad_byte : {d : ℕ} → class b ≡ BAD → Fault limit at b rest d (BadByte (place at))
  bad_token : {d i : ℕ} {f : TokenFault} → class b ≡ BRACE → FirstFault limit rest i f → Fault limit at b rest d (BadToken f (place (suc at + i)))
  unmatched : class b ≡ CLOSE → Fault limit at b rest 0 (Unmatched (place at))

-- the classes of an item's first byte, with the bytes behind it: an annotation is no item
abbrev pub Begins : Class → (rest : List ℕ) → Type 0
Begins (OPERATOR o) rest = Unit {0}
Begins OPEN rest = Unit {0}
Begins CLOSE rest = ⊥
Begins BRACE rest = annotation rest ≡ false
Begins BLANK rest = ⊥
Begins BAD rest = ⊥

-- the first fault; else the end in an open block. How many cells there are does not matter
pub data Faulty (limit : ℕ) (text : List ℕ) : TextFault → Type 0 where
  first_fault_there : (before rest : List ℕ) (b : ℕ) {d k : ℕ} {f : TextFault}
      → text ≡ before ++ b ∷ rest → Faultless limit 0 before d k → Fault limit (length before) b rest d f
      → Faulty limit text f
  unclosed : {d k : ℕ} → Faultless limit 0 text (suc d) k → Faulty limit text (Unclosed (place (length text)))

-- .. and else the first item past n
pub data Row (limit n : ℕ) (text : List ℕ) : Unread → Type 0 where
  faulty : {f : TextFault} → Faulty limit text f → Row limit n text (Text f)
  overfull : (before rest : List ℕ) (b : ℕ) {d k : ℕ}
      → text ≡ before ++ b ∷ rest → Faultless limit 0 before d n → Begins (class b) rest → Faultless limit 0 text 0 k
      → Row limit n text (Overfull (place (length before)))

-- row 11 stands before those of the text's bytes
pub data Unreadable (lim : Limits) (n : ℕ) (text : List ℕ) : Unread → Type 0 where
  too_long : lim.text < length text → Unreadable lim n text (Text TooLong)
  bad_text : {u : Unread} → length text ≤ lim.text → Row lim.token n text u → Unreadable lim n text u
