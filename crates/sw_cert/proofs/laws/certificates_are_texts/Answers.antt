use Rattle.sw_cert.proofs.Texts.{certificate_of_text, text_of_certificate, form_is_readable}
use Rattle.sw_cert.proofs.laws.certificates_are_texts.Goals as goal

pub returns : goal.returns
returns c = record {
  lines = λ extents bytes. (
    λ text. certificate_of_text extents bytes text,
    λ (lines, is). text_of_certificate extents bytes lines is,
  );
  readable = form_is_readable;
}
