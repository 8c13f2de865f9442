-- `find_token`: a token that names a word begins with `%`, and its name stands behind that.
use Rattle.std.proofs.Common.{[], ◌≤◌, arith, rules}
use Rattle.words_shelf.proofs.Seeking.{name_long, seek_other, seek_token}
use Rattle.words_shelf.proofs.Shelf.find_token.Goals as goal

pub returns-then-text-at-ne37 : goal.returns-then-text-at-ne37
returns-then-text-at-ne37 c = λ t stands. seek_other _ _ _ _ _ _ t stands c.if-text-at-ne37.true

pub slice_bounds-find-count : goal.slice_bounds-find-count
slice_bounds-find-count c =
    let (t, stands) = c.requires in
    omega (arith, name_long [] [] 0 _ _ _ t stands c.if-text-at-ne37.false)

pub slice_bounds-find-start : goal.slice_bounds-find-start
slice_bounds-find-start c =
    let (t, stands) = c.requires in
    let long : 3 ≤ c.args.token.len = name_long [] [] 0 _ _ _ t stands c.if-text-at-ne37.false in
    search rules

pub returns : goal.returns
returns c = λ t stands. seek_token _ _ _ _ _ _ t stands c.if-text-at-ne37.false c.find.ensures
