use Rattle.std.proofs.Common.{◌∙◌, ℕ, Option, ap, unwrap_or}
use Rattle.sandbox_args.proofs.words.run_with.Goals as goal

-- each getter reads what the rows have
pub returns : goal.returns
returns c dirs env words = record {
  fuel = c.unwrap_or.ensures ∙ ap (λ (o : Option ℕ). unwrap_or o 1000000000) c.long_number.ensures;
  pages = c.unwrap_or-2.ensures ∙ ap (λ (o : Option ℕ). unwrap_or o 1024) c.number.ensures;
  values = c.unwrap_or-3.ensures ∙ ap (λ (o : Option ℕ). unwrap_or o 134217728) c.number-2.ensures;
  output = c.long_number-2.ensures;
  volume = c.option_text.ensures;
  image = c.option_text-2.ensures;
  image_from = c.option_text-3.ensures;
  volume_out = c.option_text-4.ensures;
  out_to = c.option_text-5.ensures;
  dirs = dirs;
  env = env;
  moment = c.unwrap_or-4.ensures ∙ ap (λ (o : Option ℕ). unwrap_or o 0) c.long_number-3.ensures;
  random = c.option_text-6.ensures;
  seed = c.long_number-4.ensures;
  stdin = c.option_text-7.ensures;
  stdout = c.option_text-8.ensures;
  stderr = c.option_text-9.ensures;
  interactive = c.is_flagged.ensures;
  floats = c.is_flagged-2.ensures;
  name = c.option_text-10.ensures;
  report = c.option_text-11.ensures;
  frames = c.unwrap_or-5.ensures ∙ ap (λ (o : Option ℕ). unwrap_or o 16) c.number-3.ensures;
  profile = c.option_text-12.ensures;
  profile_every = c.long_number-5.ensures;
  tests = c.option_text-13.ensures;
  invoke = c.option_text-14.ensures;
  module_word = c.text.ensures;
  words = words;
}
