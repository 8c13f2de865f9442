-- The five numbers by which an answer is told: document 01's table. Every service that reads a text shares some of them. The others are
-- READ's. Request 1 of document 02 splits 14.
use Rattle.std.specs.Prelude.{ℕ, Ok, Err}
use Rattle.numbers.specs.declared.Numbers.{Numbers}
use Rattle.plan.specs.declared.ReadRefusal.{ReadRefusal}
use Rattle.plan.specs.declared.ReadRefusal.TheVariants.{NotRead, OutShort}
use Rattle.plan.specs.declared.TextFault.{TextFault}
use Rattle.plan.specs.declared.TextFault.TheVariants.{TooLong, BadByte, BadToken, Unmatched, Unclosed}
use Rattle.plan.specs.declared.TokenFault.{TokenFault}
use Rattle.plan.specs.declared.TokenFault.TheVariants.{Empty, Long, BadUtf8, Forbidden, InnerBrace}
use Rattle.plan.specs.declared.Unread.{Unread}
use Rattle.plan.specs.declared.Unread.TheVariants.{Text, Overfull}
use Rattle.plan.specs.Read.{ReadAnswer}

abbrev pub token_fault_number : TokenFault → ℕ
token_fault_number Empty = 21
token_fault_number Long = 22
token_fault_number BadUtf8 = 23
token_fault_number Forbidden = 24
token_fault_number InnerBrace = 25

abbrev pub fault_number : TextFault → ℕ
fault_number TooLong = 11
fault_number (BadByte at) = 13
fault_number (BadToken f at) = token_fault_number f
fault_number (Unmatched at) = 15
fault_number (Unclosed at) = 16

abbrev pub fault_place : TextFault → ℕ
fault_place TooLong = 0
fault_place (BadByte at) = at.0
fault_place (BadToken f at) = at.0
fault_place (Unmatched at) = at.0
fault_place (Unclosed at) = at.0

-- a refusal has no steps, no cells and no length
abbrev pub refused_numbers : (number place : ℕ) → Numbers
refused_numbers number place = record { number = number; steps = 0; cells = 0; length = 0; place = place }

abbrev pub fault_numbers : TextFault → Numbers
fault_numbers f = refused_numbers (fault_number f) (fault_place f)

abbrev pub unread_numbers : Unread → Numbers
unread_numbers (Text f) = fault_numbers f
unread_numbers (Overfull at) = refused_numbers 17 at.0

-- 18, with the bytes needed
abbrev pub outshort_numbers : (needed : ℕ) → Numbers
outshort_numbers needed = refused_numbers 18 needed

-- 3, with a plan's cells and its printed text's length: nothing was rewritten
abbrev pub given_numbers : (cells length : ℕ) → Numbers
given_numbers cells length = record { number = 3; steps = 0; cells = cells; length = length; place = 0 }

-- what READ answers
abbrev pub read_refusal_numbers : ReadRefusal → Numbers
read_refusal_numbers (NotRead u) = unread_numbers u
read_refusal_numbers (OutShort needed) = outshort_numbers needed

abbrev pub read_numbers : ReadAnswer → Numbers
read_numbers (Ok s) = given_numbers s.cells s.length
read_numbers (Err r) = read_refusal_numbers r
