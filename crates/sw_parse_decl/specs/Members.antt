-- The members of a type, by their kinds.
use Rattle.std.specs.Prelude.{List, [], ◌∷◌, ◌++◌}
use Rattle.sw_grammar_forms.specs.Reader.{Reader, then_read, pure}
use Rattle.sw_grammar.specs.Nests.{Member}
use Rattle.sw_grammar.specs.Nests.Member.{property, initialiser, function, cases}
use Rattle.sw_grammar.specs.Decls.{properties_in, initialisers_in, functions_in, cases_in}
use Rattle.sw_parse_decl.specs.declared.members.Members.{Members}

-- the members by their kinds
abbrev pub collected : List Member → Members
collected members = record {
  props = properties_in members;
  inits = initialisers_in members;
  funcs = functions_in members;
  cases = cases_in members;
}

-- the same after one more
abbrev pub with_member : Members → Member → Members
with_member all (property tree) = record {
  props = all.props ++ tree ∷ [];
  inits = all.inits;
  funcs = all.funcs;
  cases = all.cases;
}
with_member all (initialiser tree) = record {
  props = all.props;
  inits = all.inits ++ tree ∷ [];
  funcs = all.funcs;
  cases = all.cases;
}
with_member all (function tree) = record {
  props = all.props;
  inits = all.inits;
  funcs = all.funcs ++ tree ∷ [];
  cases = all.cases;
}
with_member all (cases trees) = record {
  props = all.props;
  inits = all.inits;
  funcs = all.funcs;
  cases = all.cases ++ trees;
}

-- reads one more member
abbrev pub and_member : Members → Reader Member → Reader Members
and_member all reader = then_read reader (λ member. pure (with_member all member))
