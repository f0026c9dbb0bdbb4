-- The members of types, by name.
use Rattle.std.specs.Prelude.{ℕ, Bool, ◌&&◌, ◌+◌, ◌==◌, List, [], ◌∷◌, ◌++◌, Option, Some, None}
use Rattle.std.specs.Prelude.{nat_lt, nat_eq, map, fold, if◌then◌else◌}
use Rattle.indexmap.specs.IndexMap.{get}
use Rattle.sw_tree.specs.declared.decl.CaseTree.{CaseTree}
use Rattle.sw_tree.specs.declared.decl.Decl.{Decl}
use Rattle.sw_tree.specs.declared.decl.Decl.TheVariants.{Entry, Struct, Enum, Class, Actor}
use Rattle.sw_tree.specs.declared.decl.Decl.TheVariants.{GlobalActor, Func, Global}
use Rattle.sw_tree.specs.declared.decl.FuncTree.{FuncTree}
use Rattle.sw_tree.specs.declared.decl.PropTree.{PropTree}
use Rattle.sw_decl_words.specs.Words.{declares, shapes_made}
use Rattle.sw_decl_words.specs.declared.members.Member.{Member}
use Rattle.sw_decl_words.specs.declared.members.MemberKey.{MemberKey}
use Rattle.sw_decl_words.specs.declared.members.Members.{Members}
use Rattle.sw_decl_words.specs.declared.members.Owned.{Owned}
use Rattle.sw_decl_words.specs.declared.members.Role.TheVariants as role

-- the stored properties of the type with this number, numbered from here
abbrev pub parts_from : ℕ → ℕ → List PropTree → List Owned
parts_from shape number [] = []
parts_from shape number (prop ∷ props) = record {
  shape = shape;
  member = record { word = prop.word; role = role.Part number };
} ∷ parts_from shape (number + 1) props

-- the cases of the enum with this number, numbered from here
abbrev pub cases_from : ℕ → ℕ → List CaseTree → List Owned
cases_from shape number [] = []
cases_from shape number (one ∷ cases) = record {
  shape = shape;
  member = record { word = one.word; role = role.Case number };
} ∷ cases_from shape (number + 1) cases

abbrev pub methods_of : ℕ → List FuncTree → List Owned
methods_of shape funcs = map (λ (func : FuncTree). record {
  shape = shape;
  member = record { word = func.word; role = role.Method };
}) funcs

-- the members of the type that a declaration makes, where the type has this number
unfoldable pub members_of : ℕ → Decl → List Owned
members_of shape (Entry word written at is_async body) = []
members_of shape (Struct word conforms fields funcs) =
    parts_from shape 0 fields ++ methods_of shape funcs
members_of shape (Enum word conforms cases funcs) =
    cases_from shape 0 cases ++ methods_of shape funcs
members_of shape (Class written word conforms props inits funcs) =
    parts_from shape 0 props ++ methods_of shape funcs
members_of shape (Actor word props inits funcs) =
    parts_from shape 0 props ++ methods_of shape funcs
members_of shape (GlobalActor word made) = []
members_of shape (Func func) = []
members_of shape (Global global) = []

-- the members of the types that declarations make, by the number of shapes before them
abbrev pub members_from : ℕ → List Decl → List Owned
members_from shape [] = []
members_from shape (decl ∷ decls) =
    members_of shape decl ++ members_from (shape + shapes_made decl) decls

-- the member whose word stands first
abbrev pub earlier_member : Option Member → Member → Member
earlier_member None member = member
earlier_member (Some first) member = if nat_lt member.word.at first.word.at then member else first

-- Whether it is a member of this type with this name. As at top level, a word that can't be declared
-- gets no meaning from its declaration.
abbrev pub is_named : Owned → ℕ → ℕ → Bool
is_named owned shape word = (owned.shape == shape) && declares owned.member.word.id word

-- of the members of a type with one name the first
abbrev pub first_member : List Owned → ℕ → ℕ → Option Member
first_member members shape word =
    fold (λ found (owned : Owned). if is_named owned shape word
    then Some (earlier_member found owned.member) else found) None members

-- The member that a name means in the type with this number: the first of that name.
abbrev pub member_of : List Decl → ℕ → ℕ → Option Member
member_of decls shape word = first_member (members_from 0 decls) shape word

abbrev pub same_key : MemberKey → MemberKey → Bool
same_key one other = nat_eq one.shape other.shape && nat_eq one.word other.word

-- the member that a table has
abbrev pub member_at : Members → ℕ → ℕ → Option Member
member_at members shape word =
    get same_key members.table (record { shape = shape; word = word })
