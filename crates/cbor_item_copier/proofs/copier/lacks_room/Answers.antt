use Rattle.cbor_item_copier.proofs.copier.lacks_room.Goals as goal

pub returns-in-Room-clause-yes : goal.returns-in-Room-clause-yes
returns-in-Room-clause-yes c = λ is. c.end.ensures.room c.in-Room.is

pub returns-in_default-clause-no : goal.returns-in_default-clause-no
returns-in_default-clause-no c = λ is. c.end.ensures.none c.in_default.not-Room
