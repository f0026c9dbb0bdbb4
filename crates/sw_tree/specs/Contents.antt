-- What a program is: declarations whose nodes have keys of their own, and the texts of their names.
use Rattle.std.specs.Prelude.{ℕ, ◌<◌, List, length, nat_eq, All, refl}
use Rattle.std.specs.Coded.{Coded, code_by, coded×, coded_list, coded_ℕ}
use Rattle.std.specs.List.{IsDistinct}
use Rattle.sw_tree.specs.Keys.{keys_of}
use Rattle.sw_tree.specs.NamesIn.{names_in}
use Rattle.sw_tree.specs.declared.decl.Decl.{Decl}

-- the declarations of a program, and the texts of its names by their ids
pub record Contents : Type 0 where
  pub decls : List Decl
  pub texts : List (List ℕ)

-- different nodes have different keys
abbrev pub AreKeyed : List Decl → Type 0
AreKeyed decls = IsDistinct nat_eq (keys_of decls)

-- each name that stands in the declarations has a text
abbrev pub AreNamed : List (List ℕ) → List Decl → Type 0
AreNamed texts decls = All (λ name. name.id < length texts) (names_in decls)

-- contents are stored as the pair of their parts
abbrev pub contents_code : Coded Decl → Coded Contents
contents_code decl =
    code_by (List Decl × List (List ℕ)) (coded× (coded_list decl) (coded_list (coded_list coded_ℕ)))
    (λ c. (c.decls, c.texts)) (λ p. record { decls = p.0; texts = p.1 }) (λ _. refl)
