-- What a word means, by the variables that are seen and the type around.
use Rattle.std.proofs.Common.{◌≡◌, ℕ, Bool, true, false, List, Option, Some, None, refl}
use Rattle.std.proofs.lemmas.List.Elements.{All-contains_itself}
use Rattle.std.specs.Prelude.{Contains, ◌==◌, if◌then◌else◌, slice_get}
use Rattle.sw_types.specs.declared.shape.Part.{Part}
use Rattle.sw_types.specs.declared.shape.Shape.{Shape}
use Rattle.sw_types.specs.declared.shape.ShapeKind.{ShapeKind}
use Rattle.sw_graph.specs.Kinds.{is_enum}
use Rattle.sw_decl_words.specs.declared.members.Member.{Member}
use Rattle.sw_decl_words.specs.declared.members.Role.{Role}
use Rattle.sw_decl_words.specs.declared.members.Role.TheVariants as role
use Rattle.sw_decl_words.specs.declared.words.Meaning as words
use Rattle.sw_decl_words.specs.declared.words.Meaning.TheVariants as word
use Rattle.sw_typing_rules.specs.Words.{Nothing, OwnCase, OwnMethod, OwnProperty, Printing, Sense}
use Rattle.sw_typing_rules.specs.Words.{Setting, Top, Variable, local, local_sense, member_sense}
use Rattle.sw_typing_rules.specs.Words.{owned, role_sense, sense, top_sense}
use Rattle.sw_typing_rules.specs.Worlds.{World}
use Rattle.sw_typing_rules.specs.declared.scope.Var.{Var}
use Rattle.sw_typing_facts.proofs.Lists.Found.{local_has}

-- The types that words mean and those that have methods are there, and enums store nothing.
pub record ShapesStand (world : World) : Type 0 where
  pub words : (id k : ℕ) (kind : ShapeKind) → world.known.top id ≡ Some (word.Shape kind k)
      → (shape : Shape) × (slice_get world.shapes k ≡ Some shape)
  pub methods : (k id : ℕ) (member : Member) → world.known.members k id ≡ Some member
      → member.role ≡ role.Method → (shape : Shape) × (slice_get world.shapes k ≡ Some shape)
  pub parts : (k i : ℕ) (shape : Shape) (part : Part) → slice_get world.shapes k ≡ Some shape
      → slice_get shape.parts i ≡ Some part → is_enum shape.kind ≡ false

-- The type around has a method.
pub record HasMethod (world : World) (owner : Option ℕ) : Type 0 where
  pub shape : ℕ
  pub id : ℕ
  pub member : Member
  pub owner_is : owner ≡ Some shape
  pub at : world.known.members shape id ≡ Some member
  pub role_is : member.role ≡ role.Method

module _ (world : World) (vars : List Var) (owner : Option ℕ) where
  -- what is known of what a word means
  abbrev pub SenseSeen : Sense → Type 0
  SenseSeen (Variable one) = Contains vars one
  SenseSeen (OwnProperty k i) = owner ≡ Some k
  SenseSeen (OwnMethod key) = HasMethod world owner
  SenseSeen OwnCase = Unit {0}
  SenseSeen (Top meaning) = (id : ℕ) × (world.known.top id ≡ Some meaning)
  SenseSeen Printing = Unit {0}
  SenseSeen Nothing = Unit {0}

-- What a word means is known.
pub sense_seen : (world : World) (setting : Setting) (id : ℕ)
    → SenseSeen world setting.vars setting.owner (sense world setting id)
sense_seen world setting id = by (local setting.vars id)
    (λ one is. local_has (Contains setting.vars) setting.vars id one
    (All-contains_itself setting.vars) is) where
      Seen : Sense → Type 0
      Seen meant = SenseSeen world setting.vars setting.owner meant

      top : (found : Option words.Meaning) → world.known.top id ≡ found → Seen (top_sense found id)
      top (Some meaning) is = (id, is)
      top None is = print (id == 7) where
        print : (so : Bool) → Seen (if so then Printing else Nothing)
        print true = tt
        print false = tt

      by_role : (k : ℕ) (member : Member) → setting.owner ≡ Some k
          → world.known.members k id ≡ Some member → (is : Role) → member.role ≡ is
          → Seen (role_sense k member.word.at is)
      by_role k member owner_is at (role.Part i) is = owner_is
      by_role k member owner_is at (role.Case i) is = tt
      by_role k member owner_is at role.Method is = record {
        shape = k;
        id = id;
        member = member;
        owner_is = owner_is;
        at = at;
        role_is = is;
      }

      in_type : (around : Option ℕ) → setting.owner ≡ around → (found : Option Member)
          → owned world around id ≡ found
          → Seen (member_sense around found (top_sense (world.known.top id) id))
      in_type None is found at = top (world.known.top id) refl
      in_type (Some k) is None at = top (world.known.top id) refl
      in_type (Some k) is (Some member) at = by_role k member is at member.role refl

      by : (found : Option Var) → ((one : Var) → found ≡ Some one → Contains setting.vars one)
          → Seen (local_sense found (member_sense setting.owner (owned world setting.owner id)
          (top_sense (world.known.top id) id)))
      by (Some one) holds = holds one refl
      by None holds = in_type setting.owner refl (owned world setting.owner id) refl
