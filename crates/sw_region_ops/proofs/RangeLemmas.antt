-- Operations speak of elements that are there, and change or give away none that is `Here`.
use Rattle.std.proofs.Common.{◌≡◌, ◌≢◌, ℕ, ◌+◌, ◌<◌, Bool, true, false, if◌then◌else◌, Option}
use Rattle.std.proofs.Common.{Some, None}
use Rattle.std.proofs.Common.{List, [], ◌∷◌, ◌++◌, zero, suc, map, refl, sym, subst, arith}
use Rattle.std.specs.List.{All, Contains, flat_map}
use Rattle.std.specs.Prelude.{slice_get}
use Rattle.std.proofs.lemmas.List.Elements.{All-nil, All-cons, All-head, All-tail, All-append}
use Rattle.std.proofs.lemmas.List.Elements.{All-map}
use Rattle.std.proofs.lemmas.List.Elements.{All-weaker, Contains-append_left}
use Rattle.std.proofs.lemmas.List.Elements.{Contains-append_right, All-contains_itself}
use Rattle.sw_types.specs.declared.isolation.CallKind.{CallKind}
use Rattle.sw_types.specs.declared.isolation.CallKind.TheVariants as kind
use Rattle.sw_graph.specs.declared.function.Function.{Function}
use Rattle.sw_graph.specs.declared.instr.Block.{Block}
use Rattle.sw_graph.specs.declared.instr.Instr.{Instr}
use Rattle.sw_graph.specs.declared.instr.Instr.TheVariants as instr
use Rattle.sw_graph.specs.declared.instr.Last.{Last}
use Rattle.sw_graph.specs.declared.instr.Last.TheVariants as last
use Rattle.sw_graph.specs.declared.instr.Operand.{Operand}
use Rattle.sw_graph.specs.Points.{Point, Middle, End, points_of_block}
use Rattle.sw_region_ops.specs.Calls as calls
use Rattle.sw_region_ops.specs.Calls.{is_isolated, free_code, callee_ops}
use Rattle.sw_region_ops.specs.Elements.{AreElements, element_at, element_count}
use Rattle.sw_region_ops.specs.Sites.{site_of, sites_of, AreSites}
use Rattle.sw_region_ops.specs.Groups as groups
use Rattle.sw_region_ops.specs.Marks.{mark_of, mark_at, marks_of, is_wanted, arguments_from}
use Rattle.sw_region_ops.specs.Marks.{sent_arguments, kept_arguments}
use Rattle.sw_region_ops.specs.Runs.{FitsIn, Fits}
use Rattle.sw_region_ops.specs.Setting.{FunctionSetting}
use Rattle.sw_region_ops.specs.Table as table
use Rattle.sw_region_ops.specs.declared.marks.Mark.{Mark}
use Rattle.sw_region_ops.specs.declared.op.Op.{Op}
use Rattle.sw_region_ops.specs.declared.op.Op.TheVariants.{Need, Free, Fresh, Put, Join, Give}
use Rattle.sw_region_ops.proofs.SiteLemmas.{sites_append}

-- an element that is there and isn't `Here`
pub record IsThere (count x : ℕ) : Type 0 where
  pub not_here : x ≢ 0
  pub within : x < count

abbrev IsMark : ℕ → Mark → Type 0
IsMark count mark = IsThere count mark.x

abbrev AreMarks : ℕ → List Mark → Type 0
AreMarks count marks = All (IsMark count) marks

abbrev IsResult : ℕ → Option ℕ → Type 0
IsResult count r = (x : ℕ) → r ≡ Some x → IsThere count x

-- what is asked of an operation's elements
abbrev pub IsInRange : ℕ → Op → Type 0
IsInRange count (Need x at) = x < count
IsInRange count (Free x at code) = x < count
IsInRange count (Fresh x) = IsThere count x
IsInRange count (Put x y) = IsThere count x × (y < count)
IsInRange count (Join x y) = (x < count) × (y < count)
IsInRange count (Give x site) = IsThere count x

abbrev pub AreInRange : ℕ → List Op → Type 0
AreInRange count ops = All (IsInRange count) ops

some_here : (count x : ℕ) → x < count → 0 < count
some_here count x within = omega arith

none : (count : ℕ) → AreInRange count []
none count = All-nil (IsInRange count)

one : (count : ℕ) (op : Op) → IsInRange count op → AreInRange count (op ∷ [])
one count op fits = All-cons (IsInRange count) op [] fits (none count)

both : (count : ℕ) (a b : List Op) → AreInRange count a → AreInRange count b
    → AreInRange count (a ++ b)
both count a b first second = All-append (IsInRange count) a b first second

each : (count : ℕ) (f : Mark → Op) → ((mark : Mark) → IsMark count mark → IsInRange count (f mark))
    → (marks : List Mark) → AreMarks count marks → AreInRange count (map f marks)
each count f fits marks all = All-map (IsInRange count) f marks
    (All-weaker (IsMark count) (λ mark. IsInRange count (f mark)) fits marks all)

-- the groups
need_each : (count : ℕ) (marks : List Mark) → AreMarks count marks
    → AreInRange count (groups.need_each marks)
need_each count marks all = each count (λ m. Need m.x m.at) (λ m h. h.within) marks all

free_each : (count code : ℕ) (marks : List Mark) → AreMarks count marks
    → AreInRange count (groups.free_each code marks)
free_each count code marks all = each count (λ m. Free m.x m.at code) (λ m h. h.within) marks all

give_each : (count site : ℕ) (marks : List Mark) → AreMarks count marks
    → AreInRange count (groups.give_each site marks)
give_each count site marks all = each count (λ m. Give m.x site) (λ m h. h) marks all

join_here : (count : ℕ) (marks : List Mark) → AreMarks count marks
    → AreInRange count (groups.join_here marks)
join_here count marks all =
    each count (λ m. Join m.x 0) (λ m h. (h.within, some_here count m.x h.within)) marks all

join_with : (count x : ℕ) → x < count → (marks : List Mark) → AreMarks count marks
    → AreInRange count (groups.join_with x marks)
join_with count x within marks all =
    each count (λ m. Join x m.x) (λ m h. (within, h.within)) marks all

send_each : (count code site : ℕ) (marks : List Mark) → AreMarks count marks
    → AreInRange count (groups.send_each code site marks)
send_each count code site [] all = none count
send_each count code site (mark ∷ marks) all =
    let here = All-head (IsMark count) mark marks all in
    All-cons (IsInRange count) (Free mark.x mark.at code)
    (Give mark.x site ∷ groups.send_each code site marks) here.within
    (All-cons (IsInRange count) (Give mark.x site) (groups.send_each code site marks) here
    (send_each count code site marks (All-tail (IsMark count) mark marks all)))

join_all : (count : ℕ) (marks : List Mark) → AreMarks count marks
    → AreInRange count (groups.join_all marks)
join_all count [] all = none count
join_all count (mark ∷ marks) all = join_with count mark.x
    (All-head (IsMark count) mark marks all).within marks (All-tail (IsMark count) mark marks all)

join_to : (count : ℕ) (r : Option ℕ) → IsResult count r → (marks : List Mark)
    → AreMarks count marks → AreInRange count (groups.join_to r marks)
join_to count None there marks all = none count
join_to count (Some r) there marks all = join_with count r (there r refl).within marks all

fresh : (count : ℕ) (r : Option ℕ) → IsResult count r → AreInRange count (groups.fresh r)
fresh count None there = none count
fresh count (Some r) there = one count (Fresh r) (there r refl)

put_here : (count : ℕ) (r : Option ℕ) → IsResult count r → AreInRange count (groups.put_here r)
put_here count None there = none count
put_here count (Some r) there = let h = there r refl in
    one count (Put r 0) (h, some_here count r h.within)

join_result_here : (count : ℕ) (r : Option ℕ) → IsResult count r
    → AreInRange count (groups.join_result_here r)
join_result_here count None there = none count
join_result_here count (Some r) there = let h = there r refl in
    one count (Join r 0) (h.within, some_here count r h.within)

put_first : (count : ℕ) (r : Option ℕ) → IsResult count r → (marks : List Mark)
    → AreMarks count marks → AreInRange count (groups.put_first r marks)
put_first count None there marks all = none count
put_first count (Some r) there [] all = one count (Fresh r) (there r refl)
put_first count (Some r) there (mark ∷ marks) all = one count (Put r mark.x)
    (there r refl, (All-head (IsMark count) mark marks all).within)

meet : (count : ℕ) (marks : List Mark) → AreMarks count marks
    → AreInRange count (groups.meet marks)
meet count marks all = both count (groups.need_each marks) (groups.join_all marks)
    (need_each count marks all) (join_all count marks all)

keep : (count : ℕ) (marks : List Mark) → AreMarks count marks
    → AreInRange count (groups.keep marks)
keep count marks all = both count (groups.need_each marks) (groups.join_here marks)
    (need_each count marks all) (join_here count marks all)

part_with : (count code site : ℕ) (marks : List Mark) → AreMarks count marks
    → AreInRange count (groups.part_with code site marks)
part_with count code site marks all =
    both count (groups.free_each code marks) (groups.give_each site marks)
    (free_each count code marks all) (give_each count site marks all)

take_from : (count : ℕ) (r : Option ℕ) → IsResult count r → (marks : List Mark)
    → AreMarks count marks → AreInRange count (groups.take_from r marks)
take_from count r there marks all =
    both count (groups.need_each marks) (groups.put_first r marks)
    (need_each count marks all) (put_first count r there marks all)

make_of : (count : ℕ) (r : Option ℕ) → IsResult count r → (marks : List Mark)
    → AreMarks count marks → AreInRange count (groups.make_of r marks)
make_of count r there marks all =
    both count (groups.need_each marks ++ groups.fresh r) (groups.join_to r marks)
    (both count (groups.need_each marks) (groups.fresh r) (need_each count marks all)
    (fresh count r there)) (join_to count r there marks all)

-- each element of a register is there and isn't `Here`
abbrev pub AreInside : List (Option ℕ) → Type 0
AreInside elements = (r x : ℕ) → element_at elements r ≡ Some x
    → (x ≢ 0) × (x < element_count elements)

-- the tracked operands
result_at : (elements : List (Option ℕ)) → AreInside elements → (r : ℕ)
    → IsResult (element_count elements) (element_at elements r)
result_at elements are r x e = let h = are r x e in
    record { not_here = h.0; within = h.1 }

mark_within : (count : ℕ) (element : Option ℕ) (at : ℕ) → IsResult count element
    → AreMarks count (mark_of element at)
mark_within count None at there = All-nil (IsMark count)
mark_within count (Some x) at there = All-cons (IsMark count) (record { x = x; at = at }) []
    (there x refl) (All-nil (IsMark count))

mark_at_within : (elements : List (Option ℕ)) → AreInside elements → (operand : Operand)
    → AreMarks (element_count elements) (mark_at elements operand)
mark_at_within elements are operand = mark_within (element_count elements)
    (element_at elements operand.reg) operand.at (result_at elements are operand.reg)

marks_within : (elements : List (Option ℕ)) → AreInside elements → (operands : List Operand)
    → AreMarks (element_count elements) (marks_of elements operands)
marks_within elements are [] = All-nil (IsMark (element_count elements))
marks_within elements are (operand ∷ operands) =
    All-append (IsMark (element_count elements)) (mark_at elements operand)
    (marks_of elements operands) (mark_at_within elements are operand)
    (marks_within elements are operands)

if_marks : (count : ℕ) (b : Bool) (marks : List Mark) → AreMarks count marks
    → AreMarks count (if b then marks else [])
if_marks count true marks all = all
if_marks count false marks all = All-nil (IsMark count)

arguments_within : (elements : List (Option ℕ)) → AreInside elements → (sending : List Bool)
    (wanted : Bool) (k : ℕ) (operands : List Operand)
    → AreMarks (element_count elements) (arguments_from elements sending wanted k operands)
arguments_within elements are sending wanted k [] = All-nil (IsMark (element_count elements))
arguments_within elements are sending wanted k (operand ∷ operands) =
    All-append (IsMark (element_count elements))
    (if is_wanted sending wanted k then mark_at elements operand else [])
    (arguments_from elements sending wanted (k + 1) operands)
    (if_marks (element_count elements) (is_wanted sending wanted k) (mark_at elements operand)
    (mark_at_within elements are operand))
    (arguments_within elements are sending wanted (k + 1) operands)

-- calls
kind_ops : (count : ℕ) (k : CallKind) (code site : ℕ) (marks : List Mark) → AreMarks count marks
    → AreInRange count (calls.kind_ops k code site marks)
kind_ops count kind.Plain code site marks all = meet count marks all
kind_ops count kind.Same code site marks all = keep count marks all
kind_ops count kind.Weak code site marks all =
    both count (groups.free_each code marks) (groups.join_all marks)
    (free_each count code marks all) (join_all count marks all)
kind_ops count kind.Strong code site marks all = part_with count code site marks all
kind_ops count kind.Make code site marks all = part_with count code site marks all

kind_result : (count : ℕ) (k : CallKind) (r : Option ℕ) → IsResult count r → (marks : List Mark)
    → AreMarks count marks → AreInRange count (calls.kind_result k r marks)
kind_result count kind.Plain r there marks all = put_first count r there marks all
kind_result count kind.Same r there marks all = put_here count r there
kind_result count kind.Weak r there marks all = put_first count r there marks all
kind_result count kind.Strong r there marks all = fresh count r there
kind_result count kind.Make r there marks all = fresh count r there

result_ops : (count : ℕ) (sends : Bool) (k : CallKind) (r : Option ℕ) → IsResult count r
    → (marks : List Mark) → AreMarks count marks
    → AreInRange count (calls.result_ops sends k r marks)
result_ops count true k r there marks all = fresh count r there
result_ops count false k r there marks all = kind_result count k r there marks all

callee : (elements : List (Option ℕ)) → AreInside elements → (k : CallKind) (code site : ℕ)
    (r : Option ℕ) → IsResult (element_count elements) r → (operands : List Operand)
    (function : Option Function)
    → AreInRange (element_count elements) (callee_ops k code site r elements operands function)
callee elements are k code site r there operands None = none (element_count elements)
callee elements are k code site r there operands (Some function) =
    both count (groups.send_each code site sent ++ calls.kind_ops k code site kept)
    (calls.result_ops function.sends k r kept)
    (both count (groups.send_each code site sent) (calls.kind_ops k code site kept)
    (send_each count code site sent
    (arguments_within elements are function.sending true 0 operands))
    (kind_ops count k code site kept all_kept))
    (result_ops count function.sends k r there kept all_kept)
  where
    count : ℕ
    count = element_count elements

    sent : List Mark
    sent = sent_arguments elements function.sending operands

    kept : List Mark
    kept = kept_arguments elements function.sending operands

    all_kept : AreMarks (element_count elements) (kept_arguments elements function.sending operands)
    all_kept = arguments_within elements are function.sending false 0 operands

-- the table
if_ops : (count : ℕ) (b : Bool) (ops : List Op) → AreInRange count ops
    → AreInRange count (if b then ops else [])
if_ops count true ops all = all
if_ops count false ops all = none count

closure_ops : (count : ℕ) (isolated : Bool) (r : Option ℕ) → IsResult count r
    → (marks : List Mark) → AreMarks count marks
    → AreInRange count (table.closure_ops isolated r marks)
closure_ops count isolated r there marks all =
    both count (groups.make_of r marks) (if isolated then groups.join_result_here r else [])
    (make_of count r there marks all)
    (if_ops count isolated (groups.join_result_here r) (join_result_here count r there))

task_ops : (count : ℕ) (inside : Bool) (code site : ℕ) (marks : List Mark)
    → AreMarks count marks → AreInRange count (table.task_ops inside code site marks)
task_ops count true code site marks all = keep count marks all
task_ops count false code site marks all = part_with count code site marks all

return_ops : (count : ℕ) (sends : Bool) (marks : List Mark) → AreMarks count marks
    → AreInRange count (table.return_ops sends marks)
return_ops count sends marks all =
    both count (groups.need_each marks) (if sends then groups.free_each 704 marks else [])
    (need_each count marks all)
    (if_ops count sends (groups.free_each 704 marks) (free_each count 704 marks all))

module _ (setting : FunctionSetting) (are : AreInside setting.elements) where
  abbrev width : ℕ
  width = element_count setting.elements

  marks : (operands : List Operand) → AreMarks width (table.marks setting operands)
  marks operands = marks_within setting.elements are operands

  result : (r : ℕ) → IsResult width (table.result setting r)
  result r = result_at setting.elements are r

  made : (r : ℕ) (operands : List Operand) → AreInRange width
      (groups.make_of (table.result setting r) (table.marks setting operands))
  made r operands = make_of width (table.result setting r) (result r)
      (table.marks setting operands) (marks operands)

  copied : (r : ℕ) (operand : Operand) → AreInRange width
      (groups.take_from (table.result setting r) (table.marks setting (operand ∷ [])))
  copied r operand = take_from width (table.result setting r) (result r)
      (table.marks setting (operand ∷ [])) (marks (operand ∷ []))

  met : (operands : List Operand)
      → AreInRange width (groups.meet (table.marks setting operands))
  met operands = meet width (table.marks setting operands) (marks operands)

  kept : (operands : List Operand)
      → AreInRange width (groups.keep (table.marks setting operands))
  kept operands = keep width (table.marks setting operands) (marks operands)

  loaded : (element : Option ℕ) (r : ℕ) (o : Operand)
      → AreInRange width (table.load_ops setting element r o)
  loaded None r o = put_here width (table.result setting r) (result r)
  loaded (Some x) r o = copied r o

  stored : (element : Option ℕ) (o s : Operand)
      → AreInRange width (table.store_ops setting element o s)
  stored None o s = kept (s ∷ [])
  stored (Some x) o s = met (o ∷ s ∷ [])

  pub instr_ops : (i : Instr) → AreInRange width (table.instr_ops setting i)
  instr_ops (instr.Const at r v) = none width
  instr_ops (instr.Un at r op s) = none width
  instr_ops (instr.Bin at r op s t) = none width
  instr_ops (instr.Print at r ss) = none width
  instr_ops (instr.Copy at r s) = copied r s
  instr_ops (instr.Field at r s i) = copied r s
  instr_ops (instr.Payload at r s i) = copied r s
  instr_ops (instr.SetField at r i s) = met (r ∷ s ∷ [])
  instr_ops (instr.Make at r k tag ss) = made r ss
  instr_ops (instr.NewObject at r k ss) = made r ss
  instr_ops (instr.NewBox at r s) = made r (s ∷ [])
  instr_ops (instr.NewActor at r k ss) = need_each width (table.marks setting ss) (marks ss)
  instr_ops (instr.LoadBox at r b) = copied r b
  instr_ops (instr.StoreBox at b s) = met (b ∷ s ∷ [])
  instr_ops (instr.LoadProp at r o i) = loaded (element_at setting.elements o.reg) r o
  instr_ops (instr.StoreProp at o i s) = stored (element_at setting.elements o.reg) o s
  instr_ops (instr.LoadGlobal at r g) = put_here width (table.result setting r) (result r)
  instr_ops (instr.StoreGlobal at g s) = kept (s ∷ [])
  instr_ops (instr.NewClosure at r f cs) =
      closure_ops width (table.iso_is setting is_isolated f) (table.result setting r) (result r)
      (table.marks setting cs) (marks cs)
  instr_ops (instr.Call at r k f ss) =
      callee setting.elements are k (free_code setting.body.iso) at (table.result setting r)
      (result r) ss (slice_get setting.functions f)
  instr_ops (instr.CallClosure at r c ss) =
      both width (groups.meet (table.marks setting (c ∷ ss)))
      (groups.put_first (table.result setting r) (table.marks setting (c ∷ ss))) (met (c ∷ ss))
      (put_first width (table.result setting r) (result r) (table.marks setting (c ∷ ss))
      (marks (c ∷ ss)))
  instr_ops (instr.NewTask at r f cs) =
      task_ops width (table.iso_is setting (λ iso. table.shares_actor iso setting.body.iso) f)
      (free_code setting.body.iso) at (table.marks setting cs) (marks cs)
  instr_ops (instr.Await at r t) = none width
  instr_ops (instr.Yield at r) = none width

  pub last_ops : (l : Last) → AreInRange width (table.last_ops setting l)
  last_ops (last.Jump to) = none width
  last_ops (last.Branch s holds fails) = none width
  last_ops (last.Switch s to) =
      need_each width (table.marks setting (s ∷ [])) (marks (s ∷ []))
  last_ops (last.Return None) = none width
  last_ops (last.Return (Some s)) =
      return_ops width setting.body.sends (table.marks setting (s ∷ [])) (marks (s ∷ []))

  pub point_ops : (p : Point) → AreInRange width (table.point_ops setting p)
  point_ops (Middle i) = instr_ops i
  point_ops (End l) = last_ops l

  points_ops : (points : List Point)
      → AreInRange width (flat_map (table.point_ops setting) points)
  points_ops [] = none width
  points_ops (p ∷ points) = both width (table.point_ops setting p)
      (flat_map (table.point_ops setting) points) (point_ops p) (points_ops points)

  pub block_ops : (block : Block) → AreInRange width (table.block_ops setting block)
  block_ops block = points_ops (points_of_block block)

-- operations in range whose sites are among these fit
fit : (count : ℕ) (sites : List ℕ) (op : Op) → IsInRange count op
    → All (Contains sites) (site_of op) → FitsIn count sites op
fit count sites (Need x at) range here = range
fit count sites (Free x at code) range here = range
fit count sites (Fresh x) range here = (range.not_here, range.within)
fit count sites (Put x y) range here = (range.0.not_here, range.0.within, range.1)
fit count sites (Join x y) range here = range
fit count sites (Give x site) range here =
    (range.not_here, range.within, All-head (Contains sites) site [] here)

pub all_fit : (count : ℕ) (sites : List ℕ) (ops : List Op) → AreInRange count ops
    → ((site : ℕ) → Contains (sites_of ops) site → Contains sites site)
    → All (Fits (count ∷ sites)) ops
all_fit count sites [] range here = All-nil (Fits (count ∷ sites))
all_fit count sites (op ∷ ops) range here = All-cons (Fits (count ∷ sites)) op ops
    (fit count sites op (All-head (IsInRange count) op ops range)
    (All-weaker (Contains (site_of op)) (Contains sites)
    (λ site h. here site (Contains-append_left (site_of op) (sites_of ops) site h)) (site_of op)
    (All-contains_itself (site_of op))))
    (all_fit count sites ops (All-tail (IsInRange count) op ops range)
    (λ site h. here site (Contains-append_right (site_of op) (sites_of ops) site h)))

-- the sites of a block are among those of the blocks
block_sites_among : (f : Block → List Op) (blocks : List Block) (n : ℕ) (block : Block)
    → slice_get blocks n ≡ Some block → (site : ℕ) → Contains (sites_of (f block)) site
    → Contains (sites_of (flat_map f blocks)) site
block_sites_among f [] n block e site has = cc
block_sites_among f (first ∷ blocks) zero block e site has =
    let is : first ≡ block = cc in
    rw (sites_append (f first) (flat_map f blocks))
    (Contains-append_left (sites_of (f first)) (sites_of (flat_map f blocks)) site
    (subst (λ b. Contains (sites_of (f b)) site) (sym is) has))
block_sites_among f (first ∷ blocks) (suc n) block e site has =
    rw (sites_append (f first) (flat_map f blocks))
    (Contains-append_right (sites_of (f first)) (sites_of (flat_map f blocks)) site
    (block_sites_among f blocks n block e site has))

-- the operations of a block of a function fit its states
pub block_fits : (setting : FunctionSetting) (sites : List ℕ) (n : ℕ) (block : Block)
    → AreElements setting.elements → AreSites setting sites
    → slice_get setting.body.blocks n ≡ Some block
    → All (Fits (element_count setting.elements ∷ sites)) (table.block_ops setting block)
block_fits setting sites n block are are_sites here =
    all_fit (element_count setting.elements) sites (table.block_ops setting block)
    (block_ops setting are.within block)
    (λ site has. (are_sites.same site).1
    (block_sites_among (table.block_ops setting) setting.body.blocks n block here site has))
