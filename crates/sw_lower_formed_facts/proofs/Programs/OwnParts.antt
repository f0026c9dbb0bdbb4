-- The properties of a class or an actor by name, and what they accept.
use Rattle.std.proofs.Common.{◌≡◌, ℕ, List, Option, Some, None, map, Contains, refl, ap, sym, ◌∙◌}
use Rattle.std.proofs.Common.{subst}
use Rattle.std.specs.Prelude.{slice_get}
use Rattle.sw_tree.specs.declared.decl.InitTree.{InitTree}
use Rattle.sw_tree.specs.declared.decl.PropTree.{PropTree}
use Rattle.sw_tree.proofs.Members.{of_map}
use Rattle.sw_types.specs.Accepts.{IsAcceptedAs}
use Rattle.sw_types.specs.declared.shape.Part.{Part}
use Rattle.sw_types.specs.declared.shape.Shape.{Shape}
use Rattle.sw_types.specs.declared.ty.Ty.{Ty}
use Rattle.sw_types.specs.declared.ty.Ty.TheVariants as types
use Rattle.sw_decl_words.specs.Evident.{Meanings}
use Rattle.sw_decl_words.specs.Shaped.{part_of, prop_type}
use Rattle.sw_decl_words.specs.declared.members.Member.{Member}
use Rattle.sw_decl_words.specs.declared.members.Role.{Role}
use Rattle.sw_decl_words.specs.declared.members.Role.TheVariants as role
use Rattle.sw_typing_rules.specs.Verdicts.{rows_of, type_in}
use Rattle.sw_typing_rules.specs.Words.{found_in, found_layer, found_types, member_found}
use Rattle.sw_typing_rules.specs.Words.{part_types, role_found}
use Rattle.sw_typing_rules.specs.Worlds.{World, part_at}
use Rattle.sw_isolation_rules.specs.Answers.{Answers}
use Rattle.sw_typing_facts.specs.Rows.{RowsHold}
use Rattle.sw_lower_formed_facts.proofs.Bodies.Initialisers.{AcceptsAs}
use Rattle.sw_typing_facts.proofs.Lists.Listed.{in_place}
use Rattle.sw_typing_facts.proofs.Programs.ObjectDecls.{ObjectOk}

-- parts with one name are one
abbrev pub AreApart : Shape → Type 0
AreApart shape = (i j : ℕ) (part other : Part) → slice_get shape.parts i ≡ Some part
    → slice_get shape.parts j ≡ Some other → part.name ≡ other.name → part ≡ other

-- a part that accepts a value is the only one with its name
pub accepts_as : (shape : Shape) → AreApart shape → (i : ℕ) (part : Part) (from : Ty)
    → slice_get shape.parts i ≡ Some part → IsAcceptedAs from part.ty
    → AcceptsAs shape part.name from
accepts_as shape apart i part from at accepted j other there same =
    subst (λ (p : Part). IsAcceptedAs from p.ty) (apart i j part other at there (sym same)) accepted

module _ (known : Meanings) (n : ℕ) (props : List PropTree) (inits : List InitTree)
    (object : ObjectOk known n props inits) (shape : Shape)
    (parts : shape.parts ≡ map (part_of known (Some n)) props) where
  prop_of : (i : ℕ) (part : Part) → slice_get shape.parts i ≡ Some part
      → (prop : PropTree) × Contains props prop × (part_of known (Some n) prop ≡ part)
  prop_of i part at =
      of_map (part_of known (Some n)) props part
      (in_place (map (part_of known (Some n)) props) i part
      (subst (λ all. slice_get all i ≡ Some part) parts at))

  -- The properties of a class or an actor have different names.
  pub are_apart : AreApart shape
  are_apart i j part other at there same =
      let (one, has, one_is) = prop_of i part at in
      let (two, holds, two_is) = prop_of j other there in
      sym one_is
      ∙ ap (part_of known (Some n)) (object.names one two has holds
      (ap (λ (p : Part). p.name) one_is ∙ same ∙ sym (ap (λ (p : Part). p.name) two_is)))
      ∙ two_is

  -- A value that a property accepts is accepted by the part with its name.
  pub prop_accepts : (prop : PropTree) (from : Ty) → Contains props prop
      → IsAcceptedAs from (prop_type known (Some n) prop) → AcceptsAs shape prop.word.id from
  prop_accepts prop from has accepted j other there same =
      let (two, holds, two_is) = prop_of j other there in
      subst (λ (p : Part). IsAcceptedAs from p.ty) two_is
      (subst (λ (p : PropTree). IsAcceptedAs from (prop_type known (Some n) p))
      (object.names prop two has holds (sym (ap (λ (p : Part). p.name) two_is ∙ same))) accepted)

-- the property of `self` with a name
pub record OwnPart (world : World) (n id : ℕ) : Type 0 where
  pub i : ℕ
  pub member : Member
  pub part : Part
  pub found : world.known.members n id ≡ Some member
  pub role_is : member.role ≡ role.Part i
  pub at : part_at world n i ≡ Some part
  pub typed : type_in (found_types world (found_in world (types.Named n) id)) ≡ Some part.ty

-- A name that is well after `self.` is that of a property.
pub own_part : (world : World) (answers : Answers) (n id at : ℕ)
    → RowsHold answers (rows_of at (found_types world (found_in world (types.Named n) id)))
    → OwnPart world n id
own_part world answers n id at hold =
    by (world.known.members n id) refl (subst (λ found. RowsHold answers
    (rows_of at (found_types world found))) found_is hold) where
      found_is : found_in world (types.Named n) id ≡ member_found n (world.known.members n id)
      found_is = ap (λ l. found_layer world l id) (types.outs-Named n)

      of_part : (member : Member) → world.known.members n id ≡ Some member → (i : ℕ)
          → member.role ≡ role.Part i → (part : Option Part) → part_at world n i ≡ part
          → RowsHold answers (rows_of at (part_types part 407)) → OwnPart world n id
      of_part member found i is None part_is hold = absurd hold.0
      of_part member found i is (Some part) part_is hold = record {
        i = i;
        member = member;
        part = part;
        found = found;
        role_is = is;
        at = part_is;
        typed = ap (λ one. type_in (found_types world one))
            (found_is ∙ ap (member_found n) found
            ∙ ap (role_found n member.word.at) is)
            ∙ ap (λ one. type_in (part_types one 407)) part_is;
      }

      of_role : (member : Member) → world.known.members n id ≡ Some member → (one : Role)
          → member.role ≡ one
          → RowsHold answers (rows_of at (found_types world (role_found n member.word.at one)))
          → OwnPart world n id
      of_role member found (role.Part i) is hold =
          of_part member found i is (part_at world n i) refl hold
      of_role member found (role.Case i) is hold = absurd hold.0
      of_role member found role.Method is hold = absurd hold.0

      by : (found : Option Member) → world.known.members n id ≡ found
          → RowsHold answers (rows_of at (found_types world (member_found n found)))
          → OwnPart world n id
      by None found hold = absurd hold.0
      by (Some member) found hold = of_role member found member.role refl hold
