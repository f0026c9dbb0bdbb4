-- Operators and arguments.
use Rattle.std.proofs.Common.{◌≡◌, ◌≢◌, ℕ, ◌<◌, true, List, [], ◌∷◌, ◌++◌, Some, length, refl, ◌∙◌}
use Rattle.std.proofs.Common.{flat_map}
use Rattle.std.proofs.lemmas.List.Elements.{All-cons, All-nil}
use Rattle.std.proofs.lemmas.Option.{same_Some}
use Rattle.sw_tree.specs.declared.operator.InfixOp.{InfixOp}
use Rattle.sw_tree.specs.declared.operator.InfixOp.TheVariants as infix_of
use Rattle.sw_tree.specs.declared.operator.PrefixOp.{PrefixOp}
use Rattle.sw_tree.specs.declared.operator.PrefixOp.TheVariants as prefix_of
use Rattle.sw_types.specs.declared.ty.Ty.{Ty}
use Rattle.sw_types.specs.declared.ty.Ty.TheVariants as types
use Rattle.sw_graph.specs.declared.function.RegKind.TheVariants.{Plain}
use Rattle.sw_graph.specs.declared.instr.BinOp.{BinOp}
use Rattle.sw_graph.specs.declared.instr.Instr.TheVariants as instr
use Rattle.sw_graph.specs.declared.instr.Last.{Last}
use Rattle.sw_graph.specs.declared.instr.Last.TheVariants as last
use Rattle.sw_graph.specs.declared.instr.Operand.{Operand}
use Rattle.sw_graph.specs.declared.instr.UnOp.TheVariants as un
use Rattle.sw_lower_plans.specs.Run.{Making}
use Rattle.sw_lower_code.specs.Code.{Code, close, done, each, emit, reg, resume, ◌>>=◌, ◌>>◌}
use Rattle.sw_lower_code.specs.Whole.{Body}
use Rattle.sw_lower_rules.specs.Carriers.{ArgCode, ExprCode, LinkCode}
use Rattle.sw_lower_rules.specs.Expressions.{args_inside, args_read, binary, block_made}
use Rattle.sw_lower_rules.specs.Expressions.{by_op}
use Rattle.sw_lower_rules.specs.Expressions.{copied, jump, links_read, prefixed, right_in}
use Rattle.sw_lower_rules.specs.Uses.{give, operand}
use Rattle.sw_lower_placed_facts.specs.Claims.{AreOrdinary, IsOrdinary, ReadPlaced}
use Rattle.sw_lower_placed_facts.specs.Placing.{PlacesAt, PlacesWith}
use Rattle.sw_lower_placed_facts.specs.Hosts.{Program, Host}
use Rattle.sw_lower_placed_facts.proofs.Forms.Claims.{ArgsPlaced, LinksPlaced}
use Rattle.sw_lower_placed_facts.proofs.Forms.Joining.{both_ordinary, goes_block, goes_close, goes_jump}
use Rattle.sw_lower_placed_facts.proofs.Forms.Joining.{goes_resume}
use Rattle.sw_lower_placed_facts.proofs.Forms.Values.{Gives, gives_value}
use Rattle.sw_lower_placed_facts.proofs.Placing.Giving.{allowed_new}
use Rattle.sw_lower_placed_facts.proofs.Placing.Joining.{places_after, places_done}
use Rattle.sw_lower_placed_facts.proofs.Placing.Joining.{places_then, places_weaker}
use Rattle.sw_lower_placed_facts.proofs.Placing.Later.{AreBelow, below_later, later_then}
use Rattle.sw_lower_placed_facts.proofs.Placing.Steps.{IsNew, IsStill, places_emit, places_reg}

module _ (program : Program) (host : Host) where
  -- a value in a register that was made
  abbrev Made : Operand → Making → Type 0
  Made x t = x.reg < length t.made.regs

  -- operators
  binary_placed : (at : ℕ) (op : BinOp) (ty : Ty) (right : Code Operand) (left : Operand)
      (So : Type 0) → PlacesWith program host right So → (s : Making)
      → Gives program host s (binary at op ty right left) So
  binary_placed at op ty right left So so s =
      places_then s right (λ other. give at ty (λ r. instr.Bin at r op left other))
      (λ x t. So) (λ x t. Made x t × So) (so s)
      (λ other u later inside. gives_value program host at ty
      (λ r. instr.Bin at r op left other) (λ r. refl) (λ r regs. tt) (λ r. tt) So inside u)

  -- the left value, in a register that isn't that of `self`
  copied_placed : (at : ℕ) (left : Operand) (s : Making)
      → PlacesAt program host s (copied at left) (λ r t. (r < length t.made.regs)
      × (host.has_self ≡ true → r ≢ 0))
  copied_placed at left s =
      places_then s (reg (Plain types.Bool)) (λ r. emit (instr.Copy at r left) >> done r)
      (λ r t. IsNew host s (Plain types.Bool) r t)
      (λ r t. (r < length t.made.regs) × (host.has_self ≡ true → r ≢ 0))
      (places_reg s (Plain types.Bool))
      (λ r u later new.
      places_then u (emit (instr.Copy at r left)) (λ _. done r) (λ _ t. IsStill u t)
      (λ r t. (r < length t.made.regs) × (host.has_self ≡ true → r ≢ 0))
      (places_emit u (instr.Copy at r left)
      (allowed_new s u (Plain types.Bool) r (instr.Copy at r left) new refl tt tt))
      (λ _ t after still.
      places_done t r (λ r t. (r < length t.made.regs) × (host.has_self ≡ true → r ≢ 0))
      (below_later u t r after new.below, new.apart)))

  -- the right value, where it is looked at
  right_placed : (at r : ℕ) (right : Code Operand) (own merge : ℕ) (So : Type 0)
      → PlacesWith program host right So → (host.has_self ≡ true → r ≢ 0) → (s : Making)
      → r < length s.made.regs → Gives program host s (right_in at r right own merge) So
  right_placed at r right own merge So so apart s below =
      places_then s (resume own) _ (λ _ t. Unit {0}) (λ x t. Made x t × So) (goes_resume own s)
      (λ _ t one any.
      places_then t right (λ other. emit (instr.Copy at r other)
      >> jump merge >> resume merge >> done (operand r at))
      (λ x u. So) (λ x t. Made x t × So) (so t)
      (λ other u two inside.
      places_then u (emit (instr.Copy at r other)) (λ _. jump merge >> resume merge
      >> done (operand r at)) (λ _ t. IsStill u t) (λ x t. Made x t × So)
      (places_emit u (instr.Copy at r other) (record {
        uses = tt;
        sets = tt;
        leaves = λ q is has same. apart has (set_is q is ∙ same);
      }))
      (λ _ v three still.
      places_after v (jump merge) (λ _. resume merge >> done (operand r at))
      (λ x t. Made x t × So) (goes_jump merge v)
      (λ _ w four.
      places_after w (resume merge) (λ _. done (operand r at)) (λ x t. Made x t × So)
      (goes_resume merge w)
      (λ _ z five.
      places_done z (operand r at) (λ x t. Made x t × So) (
        below_later s z r
            (later_then s t z one (later_then t u z two (later_then u v z three
            (later_then v w z four five)))) below,
        inside,
      )))))) where
        set_is : (q : ℕ) → Some r ≡ Some q → r ≡ q
        set_is q is = same_Some r q is

  -- `&&` and `||`, whichever of the two blocks is the right value's
  logic_placed : (at : ℕ) (right : Code Operand) (left : Operand) (ends : ℕ → ℕ → Last)
      (So : Type 0) → PlacesWith program host right So → (s : Making)
      → Gives program host s (copied at left >>= λ r. block_made >>= λ own. block_made
      >>= λ merge. close (ends own merge) >> right_in at r right own merge) So
  logic_placed at right left ends So so s =
      places_then s (copied at left) _
      (λ r t. (r < length t.made.regs) × (host.has_self ≡ true → r ≢ 0))
      (λ x t. Made x t × So) (copied_placed at left s)
      (λ r t one made.
      places_after t block_made _ (λ x t. Made x t × So) (goes_block t)
      (λ own u two.
      places_after u block_made _ (λ x t. Made x t × So) (goes_block u)
      (λ merge v three.
      places_after v (close (ends own merge)) _ (λ x t. Made x t × So)
      (goes_close (ends own merge) v)
      (λ _ w four.
      right_placed at r right own merge So so made.1 w
      (below_later t w r (later_then t u w two (later_then u v w three four)) made.0)))))

  op_placed : (op : InfixOp) (at : ℕ) (right : Code Operand) (left : Operand) (So : Type 0)
      → PlacesWith program host right So → (s : Making)
      → Gives program host s (by_op op at right left) So
  op_placed infix_of.Or at right left So so =
      logic_placed at right left (λ own merge. last.Branch left merge own) So so
  op_placed infix_of.And at right left So so =
      logic_placed at right left (λ own merge. last.Branch left own merge) So so
  op_placed infix_of.Equal at right left So so = binary_placed at _ _ right left So so
  op_placed infix_of.NotEqual at right left So so = binary_placed at _ _ right left So so
  op_placed infix_of.Less at right left So so = binary_placed at _ _ right left So so
  op_placed infix_of.LessEqual at right left So so = binary_placed at _ _ right left So so
  op_placed infix_of.Greater at right left So so = binary_placed at _ _ right left So so
  op_placed infix_of.GreaterEqual at right left So so = binary_placed at _ _ right left So so
  op_placed infix_of.Add at right left So so = binary_placed at _ _ right left So so
  op_placed infix_of.Subtract at right left So so = binary_placed at _ _ right left So so
  op_placed infix_of.Multiply at right left So so = binary_placed at _ _ right left So so
  op_placed infix_of.Divide at right left So so = binary_placed at _ _ right left So so
  op_placed infix_of.Remainder at right left So so = binary_placed at _ _ right left So so

  -- the operators of a chain
  pub no_links_placed : LinksPlaced program host []
  unfolding links_read
  no_links_placed left s below =
      places_done s left (λ x t. Made x t × AreOrdinary program [])
      (below, All-nil (IsOrdinary program))

  abbrev links_inside : List LinkCode → List Body
  links_inside links = flat_map (λ (link : LinkCode). link.inside) links

  pub more_links_placed : (link : LinkCode) (links : List LinkCode)
      → PlacesWith program host link.read (AreOrdinary program link.inside)
      → LinksPlaced program host links → LinksPlaced program host (link ∷ links)
  unfolding links_read
  more_links_placed link links one more left s below =
      places_then s (by_op link.op link.at link.read left) (links_read links)
      (λ x t. Made x t × AreOrdinary program link.inside)
      (λ x t. Made x t × AreOrdinary program (link.inside ++ links_inside links))
      (op_placed link.op link.at link.read left (AreOrdinary program link.inside) one s)
      (λ x u later so.
      places_weaker u (links_read links x)
      (λ y t. Made y t × AreOrdinary program (links_inside links))
      (λ y t. Made y t × AreOrdinary program (link.inside ++ links_inside links))
      (more x u so.0)
      (λ y t after rest. (
        rest.0,
        both_ordinary program link.inside (links_inside links) so.1 rest.1,
      )))

  pub prefixed_placed : (op : PrefixOp) (at : ℕ) (given : Operand) (So : Type 0) → So
      → (s : Making) → Gives program host s (prefixed op at given) So
  prefixed_placed prefix_of.Not at given So so =
      gives_value program host at types.Bool (λ r. instr.Un at r un.Not given) (λ r. refl)
      (λ r regs. tt) (λ r. tt) So so
  prefixed_placed prefix_of.Negate at given So so =
      gives_value program host at types.Int (λ r. instr.Un at r un.Neg given) (λ r. refl)
      (λ r regs. tt) (λ r. tt) So so

  -- arguments
  pub no_args_placed : ArgsPlaced program host []
  unfolding each
  no_args_placed s =
      places_done s [] (λ xs t. AreBelow t xs × AreOrdinary program [])
      (All-nil (λ (x : Operand). x.reg < length s.made.regs), All-nil (IsOrdinary program))

  pub more_args_placed : (code : ExprCode) (args : List ArgCode)
      → ReadPlaced program host code → ArgsPlaced program host args
      → ArgsPlaced program host (record { read = code.read; inside = code.inside } ∷ args)
  unfolding each
  more_args_placed code args one more s =
      places_then s code.read _ (λ x t. Made x t × AreOrdinary program code.inside) Post
      (places_weaker s code.read _ (λ x t. Made x t × AreOrdinary program code.inside) (one s)
      (λ x t later so. (so.0, so.1.1)))
      (λ x u later so.
      places_then u (args_read args) (λ xs. done (x ∷ xs))
      (λ xs t. AreBelow t xs × AreOrdinary program (args_inside args)) Post (more u)
      (λ xs t after rest.
      places_done t (x ∷ xs) Post (
        All-cons (λ (y : Operand). y.reg < length t.made.regs) x xs
            (below_later u t x.reg after so.0) rest.0,
        both_ordinary program code.inside (args_inside args) so.1 rest.1,
      ))) where
        Post : List Operand → Making → Type 0
        Post xs t = AreBelow t xs × AreOrdinary program (code.inside ++ args_inside args)
