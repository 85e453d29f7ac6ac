use Rattle.serial_pager.proofs.Walks.{regions_of}
use Rattle.serial_pager.proofs.pager.SerialPager.is_gone.Goals as goal

pub all_unmapped-requires : goal.all_unmapped-requires
all_unmapped-requires g c = record { region = regions_of c.args.self.now c.self.inside.config c.self.inside.stripes.items c.self.inside.spent c.self.view_is c.self.invariant.0 c.args.region c.requires.region }
