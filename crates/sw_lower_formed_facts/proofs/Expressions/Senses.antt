-- What is known of what a word means, by the variables and the type around, and of what is found in
-- a value, by its type.
use Rattle.std.proofs.Common.{◌≡◌, ℕ, Option, Some, None, refl, sym, Bool, true, false, ◌∙◌}
use Rattle.std.specs.Prelude.{◌==◌, if◌then◌else◌}
use Rattle.sw_types.specs.declared.ty.Ty.{Ty, out-Ty, roll-Ty, roll-out-Ty}
use Rattle.sw_types.specs.declared.ty.Ty.TheOpen as layer
use Rattle.sw_types.specs.declared.ty.Ty.TheVariants as types
use Rattle.sw_types.specs.declared.ty.Ty.TheVariants.{rolls-Named, rolls-Task}
use Rattle.sw_decl_words.specs.declared.members.Member.{Member}
use Rattle.sw_decl_words.specs.declared.members.Role.{Role}
use Rattle.sw_decl_words.specs.declared.members.Role.TheVariants as role
use Rattle.sw_decl_words.specs.declared.words.Meaning as words
use Rattle.sw_typing_rules.specs.Words.{Nothing, OwnCase, OwnMethod, OwnProperty, Printing, Sense}
use Rattle.sw_typing_rules.specs.Words.{Setting, Top, Variable, local, local_sense, member_sense}
use Rattle.sw_typing_rules.specs.Words.{owned, role_sense, sense, top_sense, found_in, found_layer}
use Rattle.sw_typing_rules.specs.Words.{member_found, role_found}
use Rattle.sw_typing_rules.specs.Worlds.{World}
use Rattle.sw_typing_rules.specs.declared.found.Found.{Found}
use Rattle.sw_typing_rules.specs.declared.found.Found.TheVariants.{Method, NoMember, Property}
use Rattle.sw_typing_rules.specs.declared.found.Found.TheVariants.{Result}
use Rattle.sw_typing_rules.specs.declared.scope.Var.{Var}
use Rattle.sw_lower_rules.specs.Tables.{Tables}
use Rattle.sw_lower_formed_facts.specs.Forms.{VarHolds, VarsHold}
use Rattle.sw_typing_facts.proofs.Lists.Found.{local_has}

-- A name means a method of a type.
pub record IsMethod (world : World) (k key : ℕ) : Type 0 where
  pub id : ℕ
  pub member : Member
  pub at : world.known.members k id ≡ Some member
  pub role_is : member.role ≡ role.Method
  pub key_is : member.word.at ≡ key

module _ (tables : Tables) (owner : Option ℕ) where
  -- a method of the type around
  pub record IsOwnMethod (key : ℕ) : Type 0 where
    pub shape : ℕ
    pub owner_is : owner ≡ Some shape
    pub method : IsMethod tables.world shape key

  -- what is known of what a word means
  abbrev pub SenseOk : Sense → Type 0
  SenseOk (Variable one) = VarHolds tables.answers one
  SenseOk (OwnProperty k i) = owner ≡ Some k
  SenseOk (OwnMethod key) = IsOwnMethod key
  SenseOk OwnCase = Unit {0}
  SenseOk (Top meaning) = (id : ℕ) × (tables.world.known.top id ≡ Some meaning)
  SenseOk Printing = Unit {0}
  SenseOk Nothing = Unit {0}

  -- What a word means is known.
  pub sense_ok : (setting : Setting) (id : ℕ) → VarsHold tables.answers setting.vars
      → setting.owner ≡ owner → SenseOk (sense tables.world setting id)
  sense_ok setting id vars same = by (local setting.vars id)
      (λ one is. local_has (VarHolds tables.answers) setting.vars id one vars is) where
        top : (found : Option words.Meaning) → tables.world.known.top id ≡ found
            → SenseOk (top_sense found id)
        top (Some meaning) is = (id, is)
        top None is = print (id == 7) where
          print : (so : Bool) → SenseOk (if so then Printing else Nothing)
          print true = tt
          print false = tt

        by_role : (k : ℕ) (member : Member) → owner ≡ Some k
            → tables.world.known.members k id ≡ Some member
            → (is : Role) → member.role ≡ is → SenseOk (role_sense k member.word.at is)
        by_role k member owner_is at (role.Part i) is = owner_is
        by_role k member owner_is at (role.Case i) is = tt
        by_role k member owner_is at role.Method is = record {
          shape = k;
          owner_is = owner_is;
          method = record { id = id; member = member; at = at; role_is = is; key_is = refl };
        }

        in_type : (around : Option ℕ) → around ≡ owner → (found : Option Member)
            → owned tables.world around id ≡ found
            → SenseOk (member_sense around found (top_sense (tables.world.known.top id) id))
        in_type None is found at = top (tables.world.known.top id) refl
        in_type (Some k) is None at = top (tables.world.known.top id) refl
        in_type (Some k) is (Some member) at = by_role k member (sym is) at member.role refl

        by : (found : Option Var)
            → ((one : Var) → found ≡ Some one → VarHolds tables.answers one)
            → SenseOk (local_sense found (member_sense setting.owner
            (owned tables.world setting.owner id) (top_sense (tables.world.known.top id) id)))
        by (Some one) holds = holds one refl
        by None holds =
            in_type setting.owner same (owned tables.world setting.owner id) refl

module _ (world : World) where
  -- a method of a declared type
  pub record IsMethodOf (ty : Ty) (key : ℕ) : Type 0 where
    pub shape : ℕ
    pub ty_is : ty ≡ types.Named shape
    pub method : IsMethod world shape key

  -- the type in which a member was found
  abbrev pub FoundIn : Ty → Found → Type 0
  FoundIn ty (Property k i) = ty ≡ types.Named k
  FoundIn ty (Method key) = IsMethodOf ty key
  FoundIn ty (Result inner) = ty ≡ types.Task inner
  FoundIn ty NoMember = Unit {0}

  -- A member is found in the type where it is looked up.
  pub found_ok : (ty : Ty) (id : ℕ) → FoundIn ty (found_in world ty id)
  found_ok ty id = by (out-Ty ty) (sym (roll-out-Ty ty)) where
    by_role : (k : ℕ) (member : Member) → ty ≡ types.Named k
        → world.known.members k id ≡ Some member → (is : Role) → member.role ≡ is
        → FoundIn ty (role_found k member.word.at is)
    by_role k member named at (role.Part i) is = named
    by_role k member named at (role.Case i) is = tt
    by_role k member named at role.Method is = record {
      shape = k;
      ty_is = named;
      method = record { id = id; member = member; at = at; role_is = is; key_is = refl };
    }

    by_member : (k : ℕ) → ty ≡ types.Named k → (found : Option Member)
        → world.known.members k id ≡ found → FoundIn ty (member_found k found)
    by_member k named None at = tt
    by_member k named (Some member) at = by_role k member named at member.role refl

    by_name : (inner : Ty) → ty ≡ types.Task inner → (so : Bool)
        → FoundIn ty (if so then Result inner else NoMember)
    by_name inner task true = task
    by_name inner task false = tt

    by : (form : layer.Ty-F Ty) → ty ≡ roll-Ty form → FoundIn ty (found_layer world form id)
    by layer.Int is = tt
    by layer.Bool is = tt
    by layer.Unit is = tt
    by (layer.Named k) is =
        by_member k (is ∙ rolls-Named k) (world.known.members k id) refl
    by (layer.Func marked params result) is = tt
    by (layer.Task inner) is = by_name inner (is ∙ rolls-Task inner) (id == 8)
