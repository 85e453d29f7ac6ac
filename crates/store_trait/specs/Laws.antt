-- The laws of pages in lanes, as statements.
use Rattle.std.specs.Prelude.{◌≡◌, ℕ, ◌+◌, ◌*◌, ◌/◌, ◌<◌, ◌≤◌, true, List, ◌++◌, length, Option, Some, is_some}
use Rattle.page_base.specs.Lanes.{Origin, has_page, told_at}
use Rattle.store_trait.specs.Lanes.{IsPlace, IsPageOf, retold}
use Rattle.store_trait.specs.Memory.{page_bytes, told_by}

-- a page lies at its number times the page size, and nowhere else
pub record PagesHavePlaces : Type 0 where
  pub place : (o : Origin) (page : ℕ) → 0 < o.page_size → has_page o page ≡ true → IsPlace o o.page_size (page * o.page_size)
  pub page : (o : Origin) (page : ℕ) → 0 < o.page_size → page * o.page_size / o.page_size ≡ page

-- of two pages the later one begins behind the end of the earlier one
abbrev pub PagesLieApart : Type 0
PagesLieApart = (earlier later page_size : ℕ) → earlier < later → earlier * page_size + page_size ≤ later * page_size

-- what reading and writing a page that is told says of it
pub record ToldPages : Type 0 where
  pub read : (told : List (Option (List ℕ))) (page : ℕ) (kept bytes : List ℕ) → told_at told page ≡ Some kept → IsPageOf told page bytes → bytes ≡ kept
  pub written : (told : Option (List ℕ)) (bytes : List ℕ) → is_some told ≡ true → retold told bytes ≡ Some bytes
  pub by_function : (o : Origin) (bytes_of : ℕ → List ℕ) (page : ℕ) → has_page o page ≡ true → told_at (told_by o bytes_of) page ≡ Some (bytes_of page)

-- where a page is appended the earlier ones stay, and it is the last
pub record PagesAppend : Type 0 where
  pub earlier : (page_size page : ℕ) (bytes more : List ℕ) → page * page_size + page_size ≤ length bytes → page_bytes page_size (bytes ++ more) page ≡ page_bytes page_size bytes page
  pub last : (page_size page : ℕ) (bytes more : List ℕ) → length bytes ≡ page * page_size → length more ≡ page_size → page_bytes page_size (bytes ++ more) page ≡ more
