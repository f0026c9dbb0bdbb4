-- A variable is declared, by `let` or `var` or by a pattern.
use Rattle.std.proofs.Common.{◌≡◌, ℕ, ◌+◌, ◌<◌, Bool, true, false, List, [], ◌∷◌, length}
use Rattle.std.proofs.Common.{Some, refl, sym, subst}
use Rattle.std.proofs.lemmas.List.Elements.{All-cons, All-nil}
use Rattle.std.specs.Prelude.{All, if◌then◌else◌, slice_get}
use Rattle.sw_tree.specs.declared.name.Name.{Name}
use Rattle.sw_tree.specs.declared.stmt.Pattern.{Pattern}
use Rattle.sw_tree.specs.declared.stmt.Pattern.TheVariants.{Skip, Let}
use Rattle.sw_types.specs.declared.ty.Ty.{Ty}
use Rattle.sw_graph.specs.declared.function.RegKind.TheVariants.{BoxOf, Plain}
use Rattle.sw_graph.specs.declared.instr.Instr.{Instr}
use Rattle.sw_graph.specs.declared.instr.Instr.TheVariants as instr
use Rattle.sw_graph.specs.declared.instr.Operand.{Operand}
use Rattle.sw_lower_plans.specs.Run.{Making}
use Rattle.sw_lower_plans.specs.declared.bound.Bound.{Bound}
use Rattle.sw_lower_code.specs.Code.{bind, emit, front, reg, ◌>>=◌, ◌>>◌}
use Rattle.sw_lower_rules.specs.Carriers.{ExprCode}
use Rattle.sw_lower_rules.specs.Statements.{boxed_var, declare_var, pattern_code, patterns_code}
use Rattle.sw_lower_rules.specs.Statements.{plain_var}
use Rattle.sw_lower_rules.specs.Tables.{Tables}
use Rattle.sw_lower_rules.specs.Uses.{typed}
use Rattle.sw_lower_formed_facts.specs.Ground.{Ground, kind_by}
use Rattle.sw_lower_formed_facts.proofs.Bodies.Captures.{var_typed}
use Rattle.sw_lower_placed_facts.specs.Claims.{AreOrdinary, CodePlaced, ReadPlaced}
use Rattle.sw_lower_placed_facts.specs.Placing.{IsKnown, Places, PlacesAt}
use Rattle.sw_lower_placed_facts.specs.Settled.{IsSettled}
use Rattle.sw_lower_placed_facts.specs.Hosts.{IsOwnSelf, IsHost, Program, Host}
use Rattle.sw_lower_placed_facts.proofs.Forms.Joining.{then_with, with_done}
use Rattle.sw_lower_placed_facts.proofs.Placing.Giving.{allowed_new, next_apart}
use Rattle.sw_lower_placed_facts.proofs.Placing.Joining.{places_any, places_then, places_weaker}
use Rattle.sw_lower_placed_facts.proofs.Placing.Steps.{IsNew, IsStill, places_bind, places_emit}
use Rattle.sw_lower_placed_facts.proofs.Placing.Steps.{places_front, places_reg}
use Rattle.sw_lower_placed_facts.proofs.Uses.Variables.{me_untyped}
use Rattle.sw_lower_placed_facts.proofs.Placing.Asking.{places_typed_then}

module _ (program : Program) (host : Host)
    (settled : IsSettled program) (is_host : IsHost program host)
    (ground : Ground program.tables program.numbers program.functions) where
  abbrev tables : Tables
  tables = program.tables

  -- A new register gets the value of a variable that has a type.
  module _ (key : ℕ) (ty : Ty) (typed_is : tables.answers.type_at key ≡ Some ty) (boxed : Bool)
      (instr : ℕ → Instr) where
    abbrev bound_at : ℕ → Bound
    bound_at r = record { key = key; reg = r; boxed = boxed }

    -- what is seen then
    known_at : (s u t : Making) (r : ℕ) → IsNew host s (kind_by boxed ty) r u → IsStill u t
        → IsKnown program host t.made.regs (bound_at r)
    known_at s u t r new still = record {
      ty = ty;
      typed = var_typed tables program.numbers program.functions ground host.owner key ty typed_is;
      kind = subst (λ regs. slice_get regs r ≡ Some (kind_by boxed ty)) (sym still.regs)
          new.kind_is;
    }

    bound_placed : (s u t : Making) (r : ℕ) → IsNew host s (kind_by boxed ty) r u → IsStill u t
        → PlacesAt program host t (bind (bound_at r)) (λ _ v. Unit {0})
    bound_placed s u t r new still =
        places_any t (bind (bound_at r)) _
        (places_bind t (bound_at r) (known_at s u t r new still)
        (λ me. me_untyped program host settled is_host key ty me typed_is)
        new.apart)

  plain_placed : (key : ℕ) (given : Operand) (ty : Ty) → tables.answers.type_at key ≡ Some ty
      → (s : Making) → PlacesAt program host s (plain_var tables key given ty) (λ _ t. Unit {0})
  plain_placed key given ty typed_is s =
      places_then s (reg (Plain ty)) _ (λ r u. IsNew host s (Plain ty) r u) (λ _ t. Unit {0})
      (places_reg s (Plain ty))
      (λ r u later new.
      places_then u (emit (instr.Copy key r given)) _ (λ _ t. IsStill u t) (λ _ t. Unit {0})
      (places_emit u (instr.Copy key r given)
      (allowed_new s u (Plain ty) r (instr.Copy key r given) new refl tt tt))
      (λ _ t after still.
      bound_placed key ty typed_is false (λ r. instr.Copy key r given) s u t r new still))

  boxed_placed : (key : ℕ) (given : Operand) (ty : Ty) → tables.answers.type_at key ≡ Some ty
      → (s : Making) → given.reg < length s.made.regs
      → PlacesAt program host s (boxed_var tables key given ty) (λ _ t. Unit {0})
  boxed_placed key given ty typed_is s below =
      places_then s (reg (BoxOf ty)) _ (λ r u. IsNew host s (BoxOf ty) r u) (λ _ t. Unit {0})
      (places_reg s (BoxOf ty))
      (λ r u later new.
      places_then u (emit (instr.NewBox key r given)) _ (λ _ t. IsStill u t) (λ _ t. Unit {0})
      (places_emit u (instr.NewBox key r given)
      (allowed_new s u (BoxOf ty) r (instr.NewBox key r given) new refl tt
      (next_apart (given ∷ []) (length s.made.regs) r (one_below below) new.number)))
      (λ _ t after still.
      bound_placed key ty typed_is true (λ r. instr.NewBox key r given) s u t r new still)) where
        one_below : given.reg < length s.made.regs
            → All (λ (x : Operand). x.reg < length s.made.regs) (given ∷ [])
        one_below is =
            All-cons (λ (x : Operand). x.reg < length s.made.regs) given [] is
            (All-nil (λ (x : Operand). x.reg < length s.made.regs))

  pub declare_placed : (key : ℕ) (given : Operand) (s : Making)
      → given.reg < length s.made.regs
      → PlacesAt program host s (declare_var tables key given) (λ _ t. Unit {0})
  unfolding declare_var
  declare_placed key given s below = by (tables.isolation.is_boxed key) where
    by : (boxed : Bool)
        → PlacesAt program host s
        (typed tables key >>= (if boxed then boxed_var tables key given
        else plain_var tables key given)) (λ _ t. Unit {0})
    by true =
        places_typed_then tables s key (boxed_var tables key given) (λ _ t. Unit {0})
        (λ ty is. boxed_placed key given ty is s below)
    by false =
        places_typed_then tables s key (plain_var tables key given) (λ _ t. Unit {0})
        (λ ty is. plain_placed key given ty is s)

  pub bind_placed : (key : ℕ) (code : ExprCode) → ReadPlaced program host code
      → CodePlaced program host (λ targets. code.read >>= declare_var tables key) code.inside
  bind_placed key code read targets s =
      places_then s code.read (declare_var tables key)
      (λ x t. (x.reg < length t.made.regs)
      × ((code.is_self ≡ true → IsOwnSelf host x) × AreOrdinary program code.inside))
      (λ _ t. AreOrdinary program code.inside) (read s)
      (λ x u later mid.
      places_weaker u (declare_var tables key x) (λ _ t. Unit {0})
      (λ _ t. AreOrdinary program code.inside) (declare_placed key x u mid.0)
      (λ _ t after any. mid.1.1))

  -- the patterns of an arm
  let_placed : (subject : Operand) (number : ℕ) (name : Name)
      → Places program host (pattern_code tables subject number (Let name))
  let_placed subject number name s =
      places_typed_then tables s name.at
      (λ ty. reg (Plain ty)
      >>= λ r. front (instr.Payload name.at r subject number)
      >> bind (record { key = name.at; reg = r; boxed = false })) (λ _ t. Unit {0})
      (λ ty typed_is.
      places_then s (reg (Plain ty)) _ (λ r u. IsNew host s (Plain ty) r u) (λ _ t. Unit {0})
      (places_reg s (Plain ty))
      (λ r u later new.
      places_then u (front (instr.Payload name.at r subject number)) _ (λ _ t. IsStill u t)
      (λ _ t. Unit {0})
      (places_front u (instr.Payload name.at r subject number)
      (allowed_new s u (Plain ty) r (instr.Payload name.at r subject number) new refl tt tt))
      (λ _ t after still.
      bound_placed name.at ty typed_is false (λ r. instr.Payload name.at r subject number) s u t r
      new still)))

  pattern_placed : (subject : Operand) (number : ℕ) (pattern : Pattern)
      → Places program host (pattern_code tables subject number pattern)
  pattern_placed subject number (Skip at) = with_done tt tt
  pattern_placed subject number (Let name) = let_placed subject number name

  pub patterns_placed : (subject : Operand) (number : ℕ) (patterns : List Pattern)
      → Places program host (patterns_code tables subject number patterns)
  unfolding patterns_code
  patterns_placed subject number [] = with_done tt tt
  patterns_placed subject number (pattern ∷ patterns) =
      then_with (pattern_code tables subject number pattern) _
      (pattern_placed subject number pattern)
      (λ taken. patterns_placed subject (number + 1) patterns)
