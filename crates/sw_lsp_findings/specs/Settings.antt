-- How texts are judged and shown, as contracts see it.
use Rattle.std.specs.Prelude.{ℕ, Bool, true, false, List, Option}
use Rattle.sw_decls.specs.declared.signature.AsyncDefault.{AsyncDefault}
use Rattle.sw_decls.specs.declared.signature.AsyncDefault.TheVariants.{Concurrent, Caller}

-- where asynchronous functions without an annotation run, and the address of the page of codes, if
-- there is one
pub record KnownSetting : Type 0 where
  pub default : AsyncDefault
  pub pages : Option (List ℕ)

-- the default, by whether it is that of SE-0461
abbrev pub default_by : Bool → AsyncDefault
default_by true = Caller
default_by false = Concurrent
