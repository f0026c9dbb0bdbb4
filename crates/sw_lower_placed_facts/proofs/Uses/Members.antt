-- What is read and written by a member of what stands before its `.`.
use Rattle.std.proofs.Common.{◌≡◌, ℕ, true, List, Some, ap, sym, ◌∙◌}
use Rattle.std.proofs.Common.{subst}
use Rattle.std.specs.Prelude.{slice_get}
use Rattle.sw_types.specs.declared.shape.Shape.{Shape}
use Rattle.sw_types.specs.declared.ty.Ty.{Ty, out-Ty, roll-Ty, roll-out-Ty}
use Rattle.sw_types.specs.declared.ty.Ty.TheOpen as layer
use Rattle.sw_types.specs.declared.ty.Ty.TheVariants as types
use Rattle.sw_types.specs.declared.ty.Ty.TheVariants.{rolls-Named}
use Rattle.sw_graph.specs.Kinds.{is_struct}
use Rattle.sw_graph.specs.declared.instr.Operand.{Operand}
use Rattle.sw_typing_rules.specs.Words.{is_var_part}
use Rattle.sw_typing_rules.specs.Worlds.{part_at}
use Rattle.sw_typing_rules.specs.declared.row.Meaning.TheVariants as means
use Rattle.sw_isolation_rules.specs.Noting.{store_notes}
use Rattle.sw_isolation_rules.specs.Uses.{base_of, named_layer, named_shape, part_used}
use Rattle.sw_isolation_rules.specs.declared.note.Note.{Note}
use Rattle.sw_isolation_rules.specs.declared.uses.Context.{Context}
use Rattle.sw_lower_plans.specs.Run.{Making}
use Rattle.sw_lower_code.specs.Code.{◌>>=◌}
use Rattle.sw_lower_rules.specs.Carriers.{ExprCode}
use Rattle.sw_lower_rules.specs.Expressions.{member_write, read_of_base, write_part}
use Rattle.sw_lower_rules.specs.Uses.{read_part, shape_of}
use Rattle.sw_lower_placed_facts.specs.Allowed.{RegisterHasType}
use Rattle.sw_lower_placed_facts.specs.Claims.{AreNoted}
use Rattle.sw_lower_placed_facts.specs.Placing.{Places, PlacesAt, PlacesWith}
use Rattle.sw_lower_placed_facts.specs.Settled.{IsSettled}
use Rattle.sw_lower_placed_facts.specs.Hosts.{IsOwnSelf, IsSeenFrom, IsHost, Program, Host}
use Rattle.sw_lower_placed_facts.proofs.Placing.Asking.{places_known_then}
use Rattle.sw_lower_placed_facts.proofs.Placing.Joining.{places_then, places_weaker}
use Rattle.sw_lower_placed_facts.proofs.Uses.Parts.{read_part_placed}
use Rattle.sw_lower_placed_facts.proofs.Uses.Using.{IsUsed, MadeValue}
use Rattle.sw_lower_placed_facts.proofs.Uses.Writes.{BaseOk, IsBase, write_part_placed}

-- The type that has a number is the declared one with it.
named_is : (ty : Ty) (k : ℕ) → named_shape (Some ty) ≡ Some k → ty ≡ types.Named k
named_is ty k is = by (out-Ty ty) (sym (roll-out-Ty ty)) is where
  some : (n : ℕ) → Some n ≡ Some k → n ≡ k
  some n same = cc

  by : (form : layer.Ty-F Ty) → ty ≡ roll-Ty form → named_layer form ≡ Some k
      → ty ≡ types.Named k
  by layer.Int same named = cc
  by layer.Bool same named = cc
  by layer.Unit same named = cc
  by (layer.Named n) same named = same ∙ rolls-Named n ∙ ap types.Named (some n named)
  by (layer.Func marked params result) same named = cc
  by (layer.Task inner) same named = cc

module _ (program : Program) (host : Host) (settled : IsSettled program)
    (is_host : IsHost program host) (O : Type 0) where
  -- what stands before a `.`: its value has the type of its node
  pub record BaseRead (base : ExprCode) (ty : Ty) : Type 0 where
    pub typed : program.tables.answers.type_at base.key ≡ Some ty
    pub read : (s : Making) → PlacesAt program host s base.read
        (λ x t. RegisterHasType t.made.regs x.reg ty
        × ((base.is_self ≡ true → IsOwnSelf host x) × O))

  -- the number of its type
  base_named : (base : ExprCode) (ty : Ty) (k : ℕ) → BaseRead base ty
      → named_shape (program.tables.answers.type_at base.key) ≡ Some k → ty ≡ types.Named k
  base_named base ty k ok named = named_is ty k (sym (ap named_shape ok.typed) ∙ named)

  base_shape : (base : ExprCode) (k : ℕ)
      → named_shape (program.tables.answers.type_at base.key) ≡ Some k
      → (base_of program.tables.answers base.key base.is_self).shape ≡ Some k
  unfolding base_of
  base_shape base k named = named

  -- a property of it
  pub read_of_base_placed : (at i : ℕ) (base : ExprCode) (ty : Ty) (context : Context)
      → IsSeenFrom host context → BaseRead base ty
      → IsUsed program context at (part_used program.tables.world
      (base_of program.tables.answers base.key base.is_self).shape i base.is_self)
      → (s : Making) → PlacesAt program host s
      (read_of_base program.tables host.owner at base i) (λ x t. MadeValue x t × O)
  unfolding shape_of
  read_of_base_placed at i base ty context seen ok used s =
      places_then s base.read
      (λ from. shape_of program.tables base.key
      >>= λ shape. read_part program.tables at shape i from)
      (λ x t. RegisterHasType t.made.regs x.reg ty × ((base.is_self ≡ true → IsOwnSelf host x) × O))
      (λ x t. MadeValue x t × O) (ok.read s)
      (λ from u later mid.
      places_known_then u 0 (named_shape (program.tables.answers.type_at base.key))
      (λ shape. read_part program.tables at shape i from) (λ x t. MadeValue x t × O)
      (λ k k_is.
      places_weaker u (read_part program.tables at k i from) MadeValue (λ x t. MadeValue x t × O)
      (read_part_placed program host settled is_host at k i base.is_self from context seen
      (subst (λ shape. IsUsed program context at
      (part_used program.tables.world shape i base.is_self)) (base_shape base k k_is) used) u
      (subst (RegisterHasType u.made.regs from.reg) (base_named base ty k ok k_is) mid.0) mid.1.0)
      (λ x t after made. (made, mid.1.1))))

  -- an assignment to one
  pub write_of_base_placed : (at i place : ℕ) (base : ExprCode) (ty : Ty) (inner : List Note)
      (given : Operand) (context : Context) → IsSeenFrom host context → BaseRead base ty
      → ((k : ℕ) (shape : Shape) → ty ≡ types.Named k
      → slice_get program.tables.world.shapes k ≡ Some shape → is_struct shape.kind ≡ true
      → (x : Operand) → Places program host (base.write x))
      → AreNoted program (store_notes context place (part_used program.tables.world
      (base_of program.tables.answers base.key base.is_self).shape i base.is_self) inner)
      → ((k : ℕ) → ty ≡ types.Named k → is_var_part (part_at program.tables.world k i) ≡ true)
      → PlacesWith program host
      (member_write program.tables host.owner at base (Some (means.PartOf i)) given) O
  unfolding shape_of
  write_of_base_placed at i place base ty inner given context seen ok write noted var s =
      places_known_then s 0 (named_shape (program.tables.answers.type_at base.key))
      (λ shape. write_part program.tables host.owner at shape i base given) (λ value t. O)
      (λ k k_is.
      let same = base_named base ty k ok k_is in
      write_part_placed program host settled is_host O at k i place base.is_self inner base given
      context seen (base_ok k same)
      (subst (λ shape. AreNoted program (store_notes context place
      (part_used program.tables.world shape i base.is_self) inner)) (base_shape base k k_is)
      noted)
      (var k same) s) where
        base_ok : (k : ℕ) → ty ≡ types.Named k
            → BaseOk program host settled is_host O k base.is_self base
        base_ok k same = record {
          read = λ u. places_weaker u base.read
              (λ x t. RegisterHasType t.made.regs x.reg ty
              × ((base.is_self ≡ true → IsOwnSelf host x) × O))
              (IsBase program host settled is_host O k base.is_self) (ok.read u)
              (λ x t later is. (subst (RegisterHasType t.made.regs x.reg) same is.0, is.1));
          write = λ shape shape_is struct x. write k shape same shape_is struct x;
        }
