-- What the functions are that a word or a member may mean: those of the top level, and methods.
use Rattle.std.specs.Prelude.{◌≡◌, ℕ, Some}
use Rattle.sw_decl_words.specs.declared.members.Member.{Member}
use Rattle.sw_decl_words.specs.declared.members.Role.TheVariants.{Method}
use Rattle.sw_decl_words.specs.declared.words.Meaning.TheVariants.{Func}
use Rattle.sw_typing_rules.specs.Worlds.{World}
use Rattle.sw_typing_rules.specs.declared.row.Meaning.{Meaning}
use Rattle.sw_typing_rules.specs.declared.row.Meaning.TheVariants as means
use Rattle.sw_typing_rules.specs.declared.row.Row.{Row}
use Rattle.sw_typing_rules.specs.declared.row.Row.TheVariants.{Typed, Means, Ill}

-- the key of a function at top level, or of a method
pub data IsFuncKey (world : World) (key : ℕ) : Type 0 where
  of_top : (id : ℕ) → world.known.top id ≡ Some (Func key) → IsFuncKey world key
  of_type : (k id : ℕ) (member : Member) → world.known.members k id ≡ Some member
      → member.role ≡ Method → member.word.at ≡ key → IsFuncKey world key

-- the number of such a function
pub record IsFuncNumber (world : World) (n : ℕ) : Type 0 where
  pub key : ℕ
  pub is : IsFuncKey world key
  pub number : world.numbers key ≡ Some n

module _ (world : World) where
  abbrev pub MeaningSo : Meaning → Type 0
  MeaningSo (means.FuncOf n) = IsFuncNumber world n
  MeaningSo (means.OwnFunc n) = IsFuncNumber world n
  MeaningSo _ = Unit {0}

  abbrev pub RowSo : Row → Type 0
  RowSo (Typed at ty) = Unit {0}
  RowSo (Means at meaning) = MeaningSo meaning
  RowSo (Ill at code unless) = Unit {0}
