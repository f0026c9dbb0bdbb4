use Rattle.std.proofs.Common.{arith}
use Rattle.std.proofs.lemmas.Str.Pattern.{strip_suffix_char}
use Rattle.sw_parse_body.proofs.WantedWords.{has_word, word_is}
use Rattle.sw_parse_body.proofs.fronts.word_of.Goals as goal

pub unwrap-requires : goal.unwrap-requires
unwrap-requires c =
    has_word c.args.text.now c.strip_suffix.result
    (strip_suffix_char 63 c.args.text.now c.strip_suffix.result c.strip_suffix.ensures.cases
    (omega arith)) c.requires

pub returns : goal.returns
returns c =
    word_is c.args.text.now c.strip_suffix.result
    (strip_suffix_char 63 c.args.text.now c.strip_suffix.result c.strip_suffix.ensures.cases
    (omega arith)) c.unwrap.result c.unwrap.ensures
