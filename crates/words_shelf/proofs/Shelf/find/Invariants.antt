-- `find`: the words passed have another name.
use Rattle.std.proofs.Common.{◌≡◌, ◌∷◌}
use Rattle.words_meaning.specs.Linking.{percent}
use Rattle.words_shelf.specs.Shelf.{seek}
use Rattle.words_shelf.proofs.Shelf.find.Given as goal

abbrev pub invariant-loop-rank : goal.invariant-loop-rank
invariant-loop-rank l =
    seek l.self.list.now l.self.words.now l.self.below (percent ∷ l.name) ≡ seek l.self.list.now l.self.words.now l.rank (percent ∷ l.name)
