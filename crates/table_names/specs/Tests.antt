-- What the contracts of the tests of names cite: what a sort wants of a name, and numbers of names.
-- Serves inner contracts only.
use Rattle.std.specs.Prelude.{ℕ, ◌%◌, ◌<◌, List, Bool, ◌≡◌, get_or}
use Rattle.std.specs.Int.Bits.{bit_xor}
use Rattle.terms.specs.Names.{Name}
use Rattle.terms.specs.Characters.{Class, is_capital, is_lower, is_letter}
use Rattle.table.specs.declared.Key.{Key}
use Rattle.table_names.specs.declared.Sort.{Sort}
use Rattle.table_names.specs.declared.Sort.TheVariants.{Location, Small, Identifier}
use Rattle.table.specs.Tests.{key_name}

-- what a sort wants of a name's first letter
abbrev pub first_of : Sort → Class → Bool
first_of Location c = is_capital c
first_of Small c = is_lower c
first_of Identifier c = is_letter c

-- m is a number below 1,013 from the four words of the name x
pub record Mixed (x : Name) (m : ℕ) : Type 0 where
  pub key : Key
  pub small : (key.a < 4_294_967_296) × (key.b < 4_294_967_296) × (key.c < 4_294_967_296) × (key.d < 4_294_967_296)
  pub name : key_name key ≡ x
  pub mix : m ≡ bit_xor (bit_xor (bit_xor key.a key.b) key.c) key.d % 1_013
  pub below : m < 1_013

-- a 1 stands at the number of the name x
pub record Noted (seen : List ℕ) (x : Name) : Type 0 where
  pub at : ℕ
  pub mixed : Mixed x at
  pub one : get_or seen at 0 ≡ 1
