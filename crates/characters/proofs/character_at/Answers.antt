-- `character_at`: the bytes from the place on begin with the character, so all its bytes are there.
use Rattle.characters.proofs.Characters.{bytes_there}
use Rattle.characters.proofs.character_at.Goals as goal

pub returns-clause-there : goal.returns-clause-there
returns-clause-there c =
    bytes_there _ _ _ c.in_ok-get.ensures.lookup.0.2 _ c.first_character.ensures
