-- The member that a name means is one of its type's declaration; a method is one of its functions.
use Rattle.std.proofs.Common.{◌≡◌, ℕ, zero, suc, ◌+◌, Option, Some, None, List, [], ◌∷◌, ◌++◌, Bool}
use Rattle.std.proofs.Common.{true, false, Contains, ◌⊎◌, inl, inr, refl, ap, ◌∙◌, arith, fold}
use Rattle.std.proofs.Common.{nat_lt}
use Rattle.std.proofs.lemmas.Bool.{eqb-true}
use Rattle.std.proofs.lemmas.List.Elements.{Contains-append_cases}
use Rattle.std.proofs.lemmas.Option.{same_Some}
use Rattle.std.specs.Prelude.{◌==◌, ◌&&◌, if◌then◌else◌}
use Rattle.sw_list.proofs.Members.{none_in}
use Rattle.sw_tree.specs.declared.decl.CaseTree.{CaseTree}
use Rattle.sw_tree.specs.declared.decl.Decl.{Decl}
use Rattle.sw_tree.specs.declared.decl.Decl.TheVariants.{Entry, Struct, Enum, Class, Actor}
use Rattle.sw_tree.specs.declared.decl.Decl.TheVariants.{GlobalActor, Func, Global}
use Rattle.sw_tree.specs.declared.decl.FuncTree.{FuncTree}
use Rattle.sw_tree.specs.declared.decl.PropTree.{PropTree}
use Rattle.sw_tree.proofs.Members.{of_map}
use Rattle.sw_decl_words.specs.Members.{cases_from, earlier_member, first_member, is_named, member_of}
use Rattle.sw_decl_words.specs.Members.{members_from, members_of, methods_of, parts_from}
use Rattle.sw_decl_words.specs.Words.{declares}
use Rattle.sw_decl_words.specs.declared.members.Member.{Member}
use Rattle.sw_decl_words.specs.declared.members.Owned.{Owned}
use Rattle.sw_decl_words.specs.declared.members.Role.TheVariants as role
use Rattle.sw_typing_facts.proofs.Lists.Listed.{in_first, in_rest}
use Rattle.sw_typing_facts.proofs.Programs.MadeOf.{member_made}
use Rattle.sw_typing_facts.proofs.Programs.Standing.{Stands}

-- the member of a type that was found
record Owner (members : List Owned) (shape : ℕ) (member : Member) : Type 0 where
  owned : Owned
  has : Contains members owned
  shape_is : owned.shape ≡ shape
  member_is : owned.member ≡ member

owner_later : (first : Owned) (members : List Owned) (shape : ℕ) (member : Member)
    → Owner members shape member → Owner (first ∷ members) shape member
owner_later first members shape member one = record {
  owned = one.owned;
  has = in_rest first members one.owned one.has;
  shape_is = one.shape_is;
  member_is = one.member_is;
}

-- the member with a name that is found after one more was looked at
abbrev pub next_member : ℕ → ℕ → Option Member → Owned → Option Member
next_member shape word found owned =
    if is_named owned shape word then Some (earlier_member found owned.member) else found

-- of two members one is the earlier
one_of : (found : Option Member) (other member : Member) → earlier_member found other ≡ member
    → (found ≡ Some member) ⊎ (other ≡ member)
one_of None other member is = inr is
one_of (Some first) other member is = by (nat_lt other.word.at first.word.at) is where
  by : (before : Bool) → (if before then other else first) ≡ member
      → (Some first ≡ Some member) ⊎ (other ≡ member)
  by true same = inr same
  by false same = inl (ap Some same)

stepped : (shape word : ℕ) (found : Option Member) (owned : Owned) (member : Member)
    → next_member shape word found owned ≡ Some member
    → (found ≡ Some member) ⊎ ((owned.shape ≡ shape) × (owned.member ≡ member))
stepped shape word found owned member is =
    by (owned.shape == shape) (declares owned.member.word.id word) refl is where
      by : (shapes words : Bool) → (owned.shape == shape) ≡ shapes
          → (if shapes && words then Some (earlier_member found owned.member) else found)
          ≡ Some member
          → (found ≡ Some member) ⊎ ((owned.shape ≡ shape) × (owned.member ≡ member))
      by true true same first =
          elim (one_of found owned.member member
          (same_Some (earlier_member found owned.member) member first)) [
            | inl before ↦ inl before
            | inr here ↦ inr (eqb-true owned.shape shape same, here)
          ]
      by true false same before = inl before
      by false words same before = inl before

owner_from : (shape word : ℕ) (members : List Owned) (found : Option Member) (member : Member)
    → fold (next_member shape word) found members ≡ Some member
    → (found ≡ Some member) ⊎ Owner members shape member
owner_from shape word [] found member is = inl is
owner_from shape word (owned ∷ members) found member is =
    elim (owner_from shape word members (next_member shape word found owned) member is) [
      | inl before ↦ elim (stepped shape word found owned member before) [
        | inl earlier ↦ inl earlier
        | inr here ↦ inr (record {
          owned = owned;
          has = in_first owned members;
          shape_is = here.0;
          member_is = here.1;
        })
      ]
      | inr later ↦ inr (owner_later owned members shape member later)
    ]

owner_of : (members : List Owned) (shape word : ℕ) (member : Member)
    → first_member members shape word ≡ Some member → Owner members shape member
owner_of members shape word member is =
    elim (owner_from shape word members None member is) [
      | inl never ↦ cc
      | inr one ↦ one
    ]

-- the functions of a type
abbrev pub trees_of : Decl → List FuncTree
trees_of (Entry word written at is_async body) = []
trees_of (Struct word conforms fields funcs) = funcs
trees_of (Enum word conforms cases funcs) = funcs
trees_of (Class written word conforms props inits funcs) = funcs
trees_of (Actor word props inits funcs) = funcs
trees_of (GlobalActor word made) = []
trees_of (Func func) = []
trees_of (Global global) = []

-- a method of a type's declaration
record MethodIn (shape : ℕ) (trees : List FuncTree) (owned : Owned) : Type 0 where
  tree : FuncTree
  has : Contains trees tree
  word : tree.word.at ≡ owned.member.word.at
  there : shape ≡ owned.shape

abbrev is_method : Owned → Type 0
is_method owned = owned.member.role ≡ role.Method

no_part : (shape number : ℕ) (props : List PropTree) (owned : Owned) → is_method owned
    → Contains (parts_from shape number props) owned → ⊥
no_part shape number [] owned is has = none_in owned has
no_part shape number (prop ∷ props) owned is (zero, below, same) =
    let never : role.Part number ≡ role.Method =
    ap (λ (one : Owned). one.member.role) same ∙ is in
    cc
no_part shape number (prop ∷ props) owned is (suc k, below, same) =
    no_part shape (number + 1) props owned is (k, omega (arith, below), same)

no_case : (shape number : ℕ) (cases : List CaseTree) (owned : Owned) → is_method owned
    → Contains (cases_from shape number cases) owned → ⊥
no_case shape number [] owned is has = none_in owned has
no_case shape number (one ∷ cases) owned is (zero, below, same) =
    let never : role.Case number ≡ role.Method =
    ap (λ (one : Owned). one.member.role) same ∙ is in
    cc
no_case shape number (one ∷ cases) owned is (suc k, below, same) =
    no_case shape (number + 1) cases owned is (k, omega (arith, below), same)

abbrev owned_by : ℕ → FuncTree → Owned
owned_by shape func =
    record { shape = shape; member = record { word = func.word; role = role.Method } }

method_in : (shape : ℕ) (trees : List FuncTree) (owned : Owned)
    → Contains (methods_of shape trees) owned → MethodIn shape trees owned
method_in shape trees owned has =
    let (tree, there, same) = of_map (owned_by shape) trees owned has in record {
      tree = tree;
      has = there;
      word = ap (λ (one : Owned). one.member.word.at) same;
      there = ap (λ (one : Owned). one.shape) same;
    }

after_others : (shape : ℕ) (others : List Owned) (trees : List FuncTree) (owned : Owned)
    → (Contains others owned → ⊥) → Contains (others ++ methods_of shape trees) owned
    → MethodIn shape trees owned
after_others shape others trees owned none has =
    elim (Contains-append_cases others (methods_of shape trees) owned has) [
      | inl never ↦ absurd (none never)
      | inr there ↦ method_in shape trees owned there
    ]

method_of : (shape : ℕ) (decl : Decl) (owned : Owned) → Contains (members_of shape decl) owned
    → is_method owned → MethodIn shape (trees_of decl) owned
unfolding members_of
method_of shape (Entry word written at is_async body) owned has is = absurd (none_in owned has)
method_of shape (Struct word conforms fields funcs) owned has is =
    after_others shape (parts_from shape 0 fields) funcs owned (no_part shape 0 fields owned is) has
method_of shape (Enum word conforms cases funcs) owned has is =
    after_others shape (cases_from shape 0 cases) funcs owned (no_case shape 0 cases owned is) has
method_of shape (Class written word conforms props inits funcs) owned has is =
    after_others shape (parts_from shape 0 props) funcs owned (no_part shape 0 props owned is) has
method_of shape (Actor word props inits funcs) owned has is =
    after_others shape (parts_from shape 0 props) funcs owned (no_part shape 0 props owned is) has
method_of shape (GlobalActor word made) owned has is = absurd (none_in owned has)
method_of shape (Func func) owned has is = absurd (none_in owned has)
method_of shape (Global global) owned has is = absurd (none_in owned has)

-- the function that a name means in the type with a number
pub record MethodPlace (decls : List Decl) (shape key : ℕ) : Type 0 where
  pub n : ℕ
  pub g : ℕ
  pub decl : Decl
  pub stands : Stands decls n g decl
  pub tree : FuncTree
  pub has : Contains (trees_of decl) tree
  pub word : tree.word.at ≡ key
  pub there : n ≡ shape

-- A method that a name means is a function of the declaration of its type.
pub method_place : (decls : List Decl) (shape word : ℕ) (member : Member)
    → member_of decls shape word ≡ Some member → member.role ≡ role.Method
    → MethodPlace decls shape member.word.at
method_place decls shape word member is role =
    let owner = owner_of (members_from 0 decls) shape word member is in
    let made = member_made decls owner.owned owner.has in
    let one = method_of made.n made.decl owner.owned made.has
    (ap (λ (one : Member). one.role) owner.member_is ∙ role) in record {
      n = made.n;
      g = made.g;
      decl = made.decl;
      stands = made.stands;
      tree = one.tree;
      has = one.has;
      word = one.word ∙ ap (λ (one : Member). one.word.at) owner.member_is;
      there = one.there ∙ owner.shape_is;
    }
