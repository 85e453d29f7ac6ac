-- Parts of real files.
use Rattle.std.specs.Prelude.{◌≡◌, ℕ, Bool, List, string_bytes}
use Rattle.file_store.specs.declared.mem_part.Shape.{Shape}
use Rattle.file_store.specs.declared.dir_part.DirPart.{DirPart}

-- a part that was just opened
pub record IsFreshPart {R : Type 0} (path : List ℕ) (shape : Shape) (made : Bool) (part : DirPart R) : Type 0 where
  pub path_is : string_bytes part.path ≡ path
  pub shape_is : part.shape ≡ shape
  pub made_is : part.made ≡ made
  pub unfailed : part.faults ≡ 0
