-- A word at a place of a list: its name and its text are the counted bytes that are found there.
use Prim.Native.Nat.{ℕ, ◌+◌}
use mathlib.Core.Path.{◌≡◌}
use mathlib.Core.List.{List}
use lib.ListN.{drop}
use Rattle.std.specs.Prelude.{None, Some}
use Rattle.stored.specs.Counted.{CUT, FRONT}
use Rattle.stored.specs.Places.{two_counted_at}
use Rattle.stored.specs.Spans.{part}
use Rattle.stored.specs.declared.Span.{Span}
use Rattle.stored.proofs.Pairs.{two_counted_front, two_counted_lost}
use Rattle.words_meaning.specs.Linking.{Word}
use Rattle.words_meaning.specs.Stock.{word}

abbrev named : (name text : List ℕ) → Word
named name text = record { name = name; text = text }

module _ (list : List ℕ) (at : ℕ) where
  pub word_lost : two_counted_at list at ≡ None → word (drop at list) ≡ CUT
  unfolding word
  word_lost e = two_counted_lost list at e named

  pub word_found : {name text : Span} → two_counted_at list at ≡ Some (name, text)
      → word (drop at list) ≡ FRONT (record { name = part list name; text = part list text }) (drop (text.at + text.len) list)
  unfolding word
  word_found e = two_counted_front list at e named
