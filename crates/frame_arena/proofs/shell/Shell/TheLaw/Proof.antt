-- A `&` to a shell holds nothing. Assumes `Logic`.
use base.Fraction.{full_share}
use denote.Memory.{part_at}
use denote.SharingLaws.{nothing_shr_laws}
use denote.Struct.Lending.{Lends-nothing}
use Rattle.frame_arena.specs.contracts.shell.Shell as Shell
use Rattle.frame_arena.proofs.shell.Shell.TheLaw.Statement.{statement}

pub shares : statement
shares = record {
  shr_laws = λ _ _ _. nothing_shr_laws;
  shares = λ _ _ 𝓛 span κ ts b o. Lends-nothing 𝓛 (part_at Shell.the_written full_share span b o) Shell.the_written.lives κ ts;
}
