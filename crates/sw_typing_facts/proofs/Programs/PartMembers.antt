-- The property that a name means in a type is the part with that name.
use Rattle.std.proofs.Common.{◌≡◌, ℕ, zero, suc, ◌+◌, Bool, true, false, List, [], ◌∷◌, ◌++◌}
use Rattle.std.proofs.Common.{Option, Some, None, map, fold, Contains, inl, inr, refl, ap, sym, ◌∙◌}
use Rattle.std.proofs.Common.{subst, arith, nat_lt}
use Rattle.std.proofs.lemmas.Bool.{eqb-true}
use Rattle.std.proofs.lemmas.List.Elements.{Contains-append_cases}
use Rattle.std.proofs.lemmas.Option.{same_Some, slice_get-map}
use Rattle.std.specs.Option.{option_map}
use Rattle.std.specs.Prelude.{◌==◌, ◌&&◌, not, if◌then◌else◌, slice_get}
use Rattle.sw_list.proofs.Members.{none_in}
use Rattle.sw_tree.specs.declared.decl.CaseTree.{CaseTree}
use Rattle.sw_tree.specs.declared.decl.Decl.{Decl}
use Rattle.sw_tree.specs.declared.decl.Decl.TheVariants.{Entry, Struct, Enum, Class, Actor}
use Rattle.sw_tree.specs.declared.decl.Decl.TheVariants.{GlobalActor, Func, Global}
use Rattle.sw_tree.specs.declared.decl.FuncTree.{FuncTree}
use Rattle.sw_tree.specs.declared.decl.PropTree.{PropTree}
use Rattle.sw_tree.specs.declared.name.Name.{Name}
use Rattle.sw_tree.proofs.Members.{of_map}
use Rattle.sw_types.specs.declared.shape.Part.{Part}
use Rattle.sw_types.specs.declared.shape.Shape.{Shape}
use Rattle.sw_decl_words.specs.Evident.{Meanings, meanings_of}
use Rattle.sw_decl_words.specs.Members.{cases_from, earlier_member, first_member, members_from}
use Rattle.sw_decl_words.specs.Members.{members_of, methods_of, parts_from}
use Rattle.sw_decl_words.specs.Shaped.{part_of, shape_of}
use Rattle.sw_decl_words.specs.Words.{declares, is_reserved}
use Rattle.sw_decl_words.specs.declared.members.Member.{Member}
use Rattle.sw_decl_words.specs.declared.members.Owned.{Owned}
use Rattle.sw_decl_words.specs.declared.members.Role.TheVariants as role
use Rattle.sw_decls.specs.declared.signature.AsyncDefault.{AsyncDefault}
use Rattle.sw_typing_rules.specs.Worlds.{IsWorldOf, World}
use Rattle.sw_typing_facts.proofs.Lists.Listed.{in_first, in_rest}
use Rattle.sw_typing_facts.proofs.Programs.DeclStands.{shape_there}
use Rattle.sw_typing_facts.proofs.Programs.MadeOf.{member_made}
use Rattle.sw_typing_facts.proofs.Programs.MemberTrees.{next_member}

-- a declared word gives itself alone a meaning
declared_word : (word id : ℕ) → declares word id ≡ true → word ≡ id
declared_word word id is = eqb-true word id (by (is_reserved word) is) where
  by : (reserved : Bool) → (not reserved && (word == id)) ≡ true → (word == id) ≡ true
  by true never = cc
  by false same = same

-- the member of a type with a name
record Named (members : List Owned) (shape word : ℕ) (member : Member) : Type 0 where
  owned : Owned
  has : Contains members owned
  shape_is : owned.shape ≡ shape
  word_is : owned.member.word.id ≡ word
  member_is : owned.member ≡ member

-- what was found so far is such a member
abbrev IfFound : List Owned → ℕ → ℕ → Option Member → Type 0
IfFound members shape word None = Unit {0}
IfFound members shape word (Some member) = Named members shape word member

module _ (members : List Owned) (shape word : ℕ) where
  earlier_found : (found : Option Member) (owned : Owned) → IfFound members shape word found
      → Named members shape word owned.member
      → IfFound members shape word (Some (earlier_member found owned.member))
  earlier_found None owned before here = here
  earlier_found (Some first) owned before here =
      by (nat_lt owned.member.word.at first.word.at) where
        by : (sooner : Bool)
            → IfFound members shape word (Some (if sooner then owned.member else first))
        by true = here
        by false = before

  next_found : (found : Option Member) (owned : Owned) → Contains members owned
      → IfFound members shape word found
      → IfFound members shape word (next_member shape word found owned)
  next_found found owned has before =
      by (owned.shape == shape) (declares owned.member.word.id word) refl refl where
        by : (shapes words : Bool) → (owned.shape == shape) ≡ shapes
            → declares owned.member.word.id word ≡ words
            → IfFound members shape word
            (if shapes && words then Some (earlier_member found owned.member) else found)
        by true true shapes words = earlier_found found owned before (record {
          owned = owned;
          has = has;
          shape_is = eqb-true owned.shape shape shapes;
          word_is = declared_word owned.member.word.id word words;
          member_is = refl;
        })
        by true false shapes words = before
        by false words_are shapes words = before

  all_found : (more : List Owned) → ((owned : Owned) → Contains more owned → Contains members owned)
      → (found : Option Member) → IfFound members shape word found
      → IfFound members shape word (fold (next_member shape word) found more)
  all_found [] are found before = before
  all_found (owned ∷ more) are found before =
      all_found more (λ one has. are one (in_rest owned more one has))
      (next_member shape word found owned)
      (next_found found owned (are owned (in_first owned more)) before)

  named_by : (member : Member) → first_member members shape word ≡ Some member
      → Named members shape word member
  named_by member is =
      subst (IfFound members shape word) is (all_found members (λ owned has. has) None tt)

-- a property among those of a type
record PartIn (props : List PropTree) (start : ℕ) (owned : Owned) (shape i : ℕ) : Type 0 where
  j : ℕ
  prop : PropTree
  at : slice_get props j ≡ Some prop
  number : start + j ≡ i
  word : prop.word ≡ owned.member.word
  there : owned.shape ≡ shape

role_number : (i j : ℕ) → role.Part i ≡ role.Part j → i ≡ j
role_number i j is = cc

part_in : (shape start : ℕ) (props : List PropTree) (owned : Owned) (i : ℕ)
    → Contains (parts_from shape start props) owned → owned.member.role ≡ role.Part i
    → PartIn props start owned shape i
part_in shape start [] owned i has is = absurd (none_in owned has)
part_in shape start (prop ∷ props) owned i (zero, below, same) is = record {
  j = 0;
  prop = prop;
  at = refl;
  number = omega (
    arith,
    role_number start i (ap (λ (one : Owned). one.member.role) same ∙ is),
  );
  word = ap (λ (one : Owned). one.member.word) same;
  there = sym (ap (λ (one : Owned). one.shape) same);
}
part_in shape start (prop ∷ props) owned i (suc k, below, same) is =
    let one = part_in shape (start + 1) props owned i (k, omega (arith, below), same) is in record {
      j = suc one.j;
      prop = one.prop;
      at = one.at;
      number = omega (arith, one.number);
      word = one.word;
      there = one.there;
    }

no_part_case : (shape start : ℕ) (cases : List CaseTree) (owned : Owned) (i : ℕ)
    → Contains (cases_from shape start cases) owned → owned.member.role ≡ role.Part i → ⊥
no_part_case shape start [] owned i has is = none_in owned has
no_part_case shape start (one ∷ cases) owned i (zero, below, same) is =
    let never : role.Case start ≡ role.Part i =
    ap (λ (one : Owned). one.member.role) same ∙ is in cc
no_part_case shape start (one ∷ cases) owned i (suc k, below, same) is =
    no_part_case shape (start + 1) cases owned i (k, omega (arith, below), same) is

no_part_method : (shape : ℕ) (funcs : List FuncTree) (owned : Owned) (i : ℕ)
    → Contains (methods_of shape funcs) owned → owned.member.role ≡ role.Part i → ⊥
no_part_method shape funcs owned i has is =
    let (tree, there, same) = of_map (λ (func : FuncTree). record {
      shape = shape;
      member = record { word = func.word; role = role.Method };
    }) funcs owned has in
    let never : role.Method ≡ role.Part i = ap (λ (one : Owned). one.member.role) same ∙ is in cc

-- the part that a property is
record PartOf (known : Meanings) (n : ℕ) (decl : Decl) (owned : Owned) (i : ℕ) : Type 0 where
  shape : Shape
  part : Part
  made : slice_get (shape_of known n decl) 0 ≡ Some shape
  at : slice_get shape.parts i ≡ Some part
  name : part.name ≡ owned.member.word.id
  there : owned.shape ≡ n

module _ (known : Meanings) (n : ℕ) where
  part_found : (props : List PropTree) (owned : Owned) (i : ℕ) → PartIn props 0 owned n i
      → (part : Part) × (slice_get (map (part_of known (Some n)) props) i ≡ Some part)
      × (part.name ≡ owned.member.word.id)
  part_found props owned i one = (
    part_of known (Some n) one.prop,
    slice_get-map (part_of known (Some n)) props i
        ∙ ap (option_map (part_of known (Some n)))
        (ap (slice_get props) (let same : i ≡ one.j = omega (arith, one.number) in same) ∙ one.at),
    ap (λ (word : Name). word.id) one.word,
  )

  among : (props : List PropTree) (funcs : List FuncTree) (owned : Owned) (i : ℕ)
      → Contains (parts_from n 0 props ++ methods_of n funcs) owned
      → owned.member.role ≡ role.Part i → PartIn props 0 owned n i
  among props funcs owned i has is =
      elim (Contains-append_cases (parts_from n 0 props) (methods_of n funcs) owned has) [
        | inl here ↦ part_in n 0 props owned i here is
        | inr there ↦ absurd (no_part_method n funcs owned i there is)
      ]

  part_is : (decl : Decl) (owned : Owned) (i : ℕ) (shape : Shape) (part : Part)
      → slice_get (shape_of known n decl) 0 ≡ Some shape → slice_get shape.parts i ≡ Some part
      → part.name ≡ owned.member.word.id → owned.shape ≡ n → PartOf known n decl owned i
  part_is decl owned i shape part made at name there =
      record { shape = shape; part = part; made = made; at = at; name = name; there = there }

  part_made : (decl : Decl) (owned : Owned) (i : ℕ) → Contains (members_of n decl) owned
      → owned.member.role ≡ role.Part i → PartOf known n decl owned i
  unfolding members_of shape_of
  part_made (Entry word written at is_async body) owned i has is = absurd (none_in owned has)
  part_made (Struct word conforms fields funcs) owned i has is =
      let one = among fields funcs owned i has is in
      let (part, at, name) = part_found fields owned i one in
      part_is _ owned i _ part refl at name one.there
  part_made (Enum word conforms cases funcs) owned i has is =
      elim (Contains-append_cases (cases_from n 0 cases) (methods_of n funcs) owned has) [
        | inl here ↦ absurd (no_part_case n 0 cases owned i here is)
        | inr there ↦ absurd (no_part_method n funcs owned i there is)
      ]
  part_made (Class written word conforms props inits funcs) owned i has is =
      let one = among props funcs owned i has is in
      let (part, at, name) = part_found props owned i one in
      part_is _ owned i _ part refl at name one.there
  part_made (Actor word props inits funcs) owned i has is =
      let one = among props funcs owned i has is in
      let (part, at, name) = part_found props owned i one in
      part_is _ owned i _ part refl at name one.there
  part_made (GlobalActor word made) owned i has is = absurd (none_in owned has)
  part_made (Func func) owned i has is = absurd (none_in owned has)
  part_made (Global global) owned i has is = absurd (none_in owned has)

-- A property that is found by its name is the part with that name.
pub record PartNamed (shape : Shape) (id i : ℕ) : Type 0 where
  pub part : Part
  pub at : slice_get shape.parts i ≡ Some part
  pub name : part.name ≡ id

-- The property that a name means is the part with that name.
pub named_part : (decls : List Decl) (rule : AsyncDefault) (world : World)
    → IsWorldOf decls rule world → (n id i : ℕ) (member : Member) (shape : Shape)
    → world.known.members n id ≡ Some member → member.role ≡ role.Part i
    → slice_get world.shapes n ≡ Some shape → PartNamed shape id i
named_part decls rule world is n id i member shape found role_is at =
    let named = named_by (members_from 0 decls) n id member (sym (is.members n id) ∙ found) in
    let made = member_made decls named.owned named.has in
    let one = part_made (meanings_of decls) made.n made.decl named.owned i made.has
    (ap (λ (m : Member). m.role) named.member_is ∙ role_is) in
    let same : one.shape ≡ shape = same_Some one.shape shape
    (sym (shape_there decls rule world is made.n made.g made.decl one.shape made.stands one.made)
    ∙ ap (slice_get world.shapes) (sym one.there ∙ named.shape_is) ∙ at) in record {
      part = one.part;
      at = ap (λ (s : Shape). slice_get s.parts i) (sym same) ∙ one.at;
      name = one.name ∙ named.word_is;
    }
