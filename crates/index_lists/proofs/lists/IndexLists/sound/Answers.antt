use Rattle.index_lists.proofs.Tied.{sound_of}
use Rattle.index_lists.proofs.lists.IndexLists.sound.Goals as goal

pub returns : goal.returns
returns c = record { sound = rw (← c.self.view_is) (sound_of c.self.inside.nodes.items c.self.inside.numbers _ c.self.invariant) }
