-- What is read of a variable and of `self`, and what is written to a variable.
use Rattle.std.proofs.Common.{◌≡◌, ◌≢◌, ℕ, true, false, true≢false, Option, Some, None, refl}
use Rattle.std.proofs.Common.{ap, sym, ◌∙◌, subst, inl, inr}
use Rattle.std.proofs.lemmas.Option.{slice_get_within}
use Rattle.std.specs.Option.{option_map, option_map_or}
use Rattle.std.specs.Prelude.{slice_get}
use Rattle.sw_types.specs.declared.shape.Shape.{Shape}
use Rattle.sw_types.specs.declared.ty.Ty.{Ty}
use Rattle.sw_types.specs.declared.ty.Ty.TheVariants as types
use Rattle.sw_graph.specs.declared.function.RegKind.TheVariants.{Plain}
use Rattle.sw_graph.specs.declared.instr.Instr.{Instr}
use Rattle.sw_graph.specs.declared.instr.Instr.TheVariants as instr
use Rattle.sw_graph.specs.declared.instr.Operand.{Operand}
use Rattle.sw_typing_rules.specs.Worlds.{item}
use Rattle.sw_isolation_rules.specs.Captures.{is_among, self_of}
use Rattle.sw_lower_plans.specs.Plan.{var_in}
use Rattle.sw_lower_plans.specs.Run.{Making}
use Rattle.sw_lower_plans.specs.declared.bound.Bound.{Bound}
use Rattle.sw_lower_code.specs.Code.{done, emit}
use Rattle.sw_lower_rules.specs.Uses.{from_box, give, operand, read_bound, read_self, read_var}
use Rattle.sw_lower_rules.specs.Uses.{self_key, write_bound, write_var}
use Rattle.sw_lower_formed_facts.specs.Ground.{HasVarType, kind_by}
use Rattle.sw_lower_formed_facts.proofs.Expressions.Variables.{IsSelf, self_among}
use Rattle.sw_typing_facts.proofs.Lists.Found.{mapped}
use Rattle.sw_lower_formed_facts.proofs.Bodies.SeenBy.{seen_by}
use Rattle.sw_lower_placed_facts.specs.Allowed.{RegisterHasType}
use Rattle.sw_lower_placed_facts.specs.Placing.{IsKnown, IsMe, Places, PlacesAt, Stood}
use Rattle.sw_lower_placed_facts.specs.Settled.{IsSettled}
use Rattle.sw_lower_placed_facts.specs.Hosts.{IsOwnSelf, IsHost, Program, Host}
use Rattle.sw_lower_placed_facts.proofs.Placing.Asking.{places_known_then, places_typed_then}
use Rattle.sw_lower_placed_facts.proofs.Placing.Asking.{places_var_then}
use Rattle.sw_lower_placed_facts.proofs.Placing.Giving.{allowed_unset}
use Rattle.sw_lower_placed_facts.proofs.Placing.Joining.{places_any, places_done, places_if, places_in}
use Rattle.sw_lower_placed_facts.proofs.Placing.Steps.{IsStill, places_emit}
use Rattle.sw_lower_placed_facts.proofs.Uses.Using.{MadeValue, give_placed}

-- The key of `self` is the word of the type around.
pub me_is : (program : Program) (host : Host) (key : ℕ) → IsMe program host key
    → IsSelf program.tables.world host.owner key
unfolding self_key
me_is program host key me = by host.owner refl me where
  by : (around : Option ℕ) → host.owner ≡ around
      → option_map (λ (shape : Shape). shape.at) (item around program.tables.world.shapes)
      ≡ Some key → IsSelf program.tables.world host.owner key
  by None is me = cc
  by (Some k) is me =
      let found = mapped (λ (shape : Shape). shape.at)
      (slice_get program.tables.world.shapes k) key me in
      record {
        number = k;
        shape = found.0;
        owner_is = is;
        at = found.1;
        word = found.2;
      }

module _ (program : Program) (host : Host) (settled : IsSettled program)
    (is_host : IsHost program host) where
  -- `self` is no node, so it has no type in the tables,
  pub me_untyped : (key : ℕ) (ty : Ty) → IsMe program host key
      → program.tables.answers.type_at key ≡ Some ty → ⊥
  me_untyped key ty me typed =
      let is = me_is program host key me in
      no (sym (settled.selves is.number is.shape is.at) ∙ ap program.tables.answers.type_at is.word
      ∙ typed) where
        no : None ≡ Some ty → ⊥
        no same = cc

  -- and it is among the keys of `self`.
  pub me_among : (key : ℕ) → IsMe program host key
      → is_among (self_of program.tables.world host.owner) key ≡ true
  me_among key me =
      let is = me_is program host key me in
      ap (λ o. is_among (self_of program.tables.world o) key) is.owner_is
      ∙ ap (is_among (self_of program.tables.world (Some is.number))) (sym is.word)
      ∙ self_among program.tables.world is.number is.shape is.at

  -- It has the type around.
  pub me_typed : (key k : ℕ) (ty : Ty) → IsMe program host key → host.owner ≡ Some k
      → HasVarType program.tables host.owner key ty → ty ≡ types.Named k
  me_typed key k ty me owner_is (inl self) =
      self.1 ∙ ap (λ o. option_map_or types.Named o types.Unit) owner_is
  me_typed key k ty me owner_is (inr local) =
      absurd (true≢false (sym (me_among key me) ∙ local.0))

  -- A variable's value, in its register or in its box.
  box_placed : (at : ℕ) (bound : Bound) (s : Making)
      → PlacesAt program host s (from_box program.tables at bound) MadeValue
  box_placed at bound s =
      places_typed_then program.tables s bound.key
      (λ ty. give at ty (λ r. instr.LoadBox at r (operand bound.reg at))) MadeValue
      (λ ty is. give_placed at ty (λ r. instr.LoadBox at r (operand bound.reg at)) s (λ r. refl)
      (λ r t. tt) (λ r. tt))

  read_bound_placed : (at : ℕ) (bound : Bound) (s : Making)
      → IsKnown program host s.made.regs bound
      → PlacesAt program host s (read_bound program.tables at bound) MadeValue
  unfolding read_bound
  read_bound_placed at bound s known =
      places_if s bound.boxed (from_box program.tables at bound) (done (operand bound.reg at))
      MadeValue (λ is. box_placed at bound s)
      (λ is. places_done s (operand bound.reg at) MadeValue
      (slice_get_within s.made.regs bound.reg (kind_by bound.boxed known.ty) known.kind))

  -- the variable with a key
  pub read_var_placed : (at key : ℕ) (s : Making)
      → PlacesAt program host s (read_var program.tables at key) MadeValue
  unfolding read_var
  read_var_placed at key s =
      places_var_then s key (read_bound program.tables at) MadeValue
      (λ bound found same known. read_bound_placed at bound s known)

  -- `self`: the body's own, of the type around
  pub record SelfValue (x : Operand) (t : Making) : Type 0 where
    pub own : IsOwnSelf host x
    pub made : MadeValue x t
    pub held : (k : ℕ) → host.owner ≡ Some k → RegisterHasType t.made.regs x.reg (types.Named k)

  -- It is in no box, since it has no type of its own.
  me_boxed : (at key : ℕ) (bound : Bound) (s : Making) → IsMe program host key → bound.key ≡ key
      → PlacesAt program host s (from_box program.tables at bound) SelfValue
  me_boxed at key bound s me same =
      places_typed_then program.tables s bound.key
      (λ ty. give at ty (λ r. instr.LoadBox at r (operand bound.reg at))) SelfValue
      (λ ty is. absurd (me_untyped bound.key ty (subst (IsMe program host) (sym same) me) is))

  me_value : (at key : ℕ) (bound : Bound) (s : Making) → Stood program host s
      → IsMe program host key → var_in key s.vars ≡ Some bound → bound.key ≡ key
      → IsKnown program host s.made.regs bound → bound.boxed ≡ false
      → SelfValue (operand bound.reg at) s
  me_value at key bound s stood me found same known plain = record {
    own = record {
      has = λ own. (stood.me key bound own me found).has;
      first = λ own. (stood.me key bound own me found).reg;
    };
    made = slice_get_within s.made.regs bound.reg (kind_by bound.boxed known.ty) known.kind;
    held = λ k owner_is.
        known.kind ∙ ap (λ boxed. Some (kind_by boxed known.ty)) plain
        ∙ ap (λ ty. Some (Plain ty)) (me_typed key k known.ty me owner_is
        (subst (λ one. HasVarType program.tables host.owner one known.ty) same known.typed));
  }

  me_read : (at key : ℕ) (s : Making) → IsMe program host key
      → PlacesAt program host s (read_var program.tables at key) SelfValue
  unfolding read_var read_bound
  me_read at key s me =
      places_in s (read_var program.tables at key) SelfValue (λ stood.
      places_var_then s key (read_bound program.tables at) SelfValue
      (λ bound found same known.
      places_if s bound.boxed (from_box program.tables at bound) (done (operand bound.reg at))
      SelfValue (λ is. me_boxed at key bound s me same)
      (λ is. places_done s (operand bound.reg at) SelfValue
      (me_value at key bound s stood me found same known is))))

  pub read_self_placed : (at : ℕ) (s : Making)
      → PlacesAt program host s (read_self program.tables host.owner at) SelfValue
  unfolding read_self
  read_self_placed at s =
      places_known_then s 0 (self_key program.tables host.owner) (read_var program.tables at)
      SelfValue (λ key me. me_read at key s me)

  -- A variable that isn't `self` has another register than that of the body's own `self`.
  not_first : (key : ℕ) (ty : Ty) (bound : Bound) (s : Making) → Stood program host s
      → program.tables.answers.type_at key ≡ Some ty → var_in key s.vars ≡ Some bound
      → bound.key ≡ key → host.has_self ≡ true → bound.reg ≢ 0
  not_first key ty bound s stood typed found same has zero =
      let mine = (seen_by (λ (one : Bound). one.reg ≡ 0 → IsMe program host one.key) key s.vars
      bound (stood.alone has) found).0 in
      me_untyped bound.key ty (mine zero) (ap program.tables.answers.type_at same ∙ typed)

  -- A value goes into a variable that isn't `self`.
  write_bound_placed : (at : ℕ) (given : Operand) (bound : Bound) (s : Making)
      → (host.has_self ≡ true → bound.reg ≢ 0)
      → PlacesAt program host s (write_bound at given bound) (λ value t. Unit {0})
  unfolding write_bound
  write_bound_placed at given bound s apart =
      places_if s bound.boxed (emit stored) (emit copied) (λ value t. Unit {0})
      (λ is. places_any s (emit stored) (λ value t. IsStill s t)
      (places_emit s stored (allowed_unset s.made.regs stored refl tt tt)))
      (λ is. places_any s (emit copied) (λ value t. IsStill s t)
      (places_emit s copied (record { uses = tt; sets = tt; leaves = leaves }))) where
        stored : Instr
        stored = instr.StoreBox at (operand bound.reg at) given

        copied : Instr
        copied = instr.Copy at bound.reg given

        leaves : (r : ℕ) → Some bound.reg ≡ Some r → host.has_self ≡ true → r ≢ 0
        leaves r is has zero = apart has (same_number is ∙ zero) where
          same_number : Some bound.reg ≡ Some r → bound.reg ≡ r
          same_number same = cc

  pub write_var_placed : (at key : ℕ) (ty : Ty) (given : Operand)
      → program.tables.answers.type_at key ≡ Some ty
      → Places program host (write_var program.tables at key given)
  unfolding write_var
  write_var_placed at key ty given typed s =
      places_in s (write_var program.tables at key given) (λ value t. Unit {0}) (λ stood.
      places_var_then s key (write_bound at given) (λ value t. Unit {0})
      (λ bound found same known.
      write_bound_placed at given bound s (not_first key ty bound s stood typed found same)))
