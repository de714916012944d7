-- All claims hold.
-- Assumes nothing.
use Rattle.claims.specs.Claims.{Claims}
use Rattle.claims.proofs.ExampleClaims.{examples, mask_lengths, mapped_addresses, table_examples, looked_examples, matters_examples}
use Rattle.claims.proofs.AnswerLaws.{refusal_writes_nothing, every_decision, every_number}
use Rattle.claims.proofs.SheetClaims.{cut_short, longest, unpack_pack, pack_unpack, sheet_as_texts, upgraded}
use Rattle.claims.proofs.AddressClaims.{read_written, bit_by_bit}
use Rattle.claims.proofs.CommandClaims.{command_in_turn}
use Rattle.claims.proofs.UserClaims.{ask_only_unfetched, name_cannot_matter}
use Rattle.claims.proofs.FileClaims.{grants_own_span, other_span_no_line, neither_file}
use Rattle.claims.proofs.MappedClaims.{no_mapped, held_as_v4}
use Rattle.claims.proofs.LookedClaims.{refusal_looks_at_nothing, looked_bound}
use Rattle.claims.proofs.OrderClaims.{absent_goes_on, answer_settles, names_differ, reads_its_file, manual_example}
use Rattle.claims.proofs.LimitClaims.{old_boxes}
use Rattle.claims.proofs.RetiredClaims.{retired_refused, converted, refusal_numbers}
use Rattle.claims.proofs.CarryClaims.{carried_over}
use Rattle.claims.proofs.TidiedClaims.{tidy_proposals, tidied_files, tidied_verdicts}
use Rattle.claims.proofs.SalvageClaims.{salvaged_sheets}
use Rattle.claims.proofs.IndexedClaims.{index_written, indexed_verdicts}
use Rattle.claims.proofs.MattersClaims.{name_matters_lem}

pub claims : Claims
claims = record {
  examples = examples;
  mask_lengths = mask_lengths;
  cut_short = cut_short;
  longest = longest;
  refusal_writes_nothing = refusal_writes_nothing;
  every_decision = every_decision;
  every_number = every_number;
  unpack_pack = unpack_pack;
  pack_unpack = pack_unpack;
  read_written = read_written;
  sheet_as_texts = sheet_as_texts;
  command_in_turn = command_in_turn;
  ask_only_unfetched = ask_only_unfetched;
  name_cannot_matter = name_cannot_matter;
  bit_by_bit = bit_by_bit;
  grants_own_span = grants_own_span;
  other_span_no_line = other_span_no_line;
  neither_file = neither_file;
  mapped_addresses = mapped_addresses;
  no_mapped = no_mapped;
  held_as_v4 = held_as_v4;
  table_examples = table_examples;
  upgraded = upgraded;
  looked_examples = looked_examples;
  refusal_looks_at_nothing = refusal_looks_at_nothing;
  looked_bound = looked_bound;
  absent_goes_on = absent_goes_on;
  answer_settles = answer_settles;
  names_differ = names_differ;
  reads_its_file = reads_its_file;
  manual_example = manual_example;
  old_boxes = old_boxes;
  retired_refused = retired_refused;
  converted = converted;
  refusal_numbers = refusal_numbers;
  carried_over = carried_over;
  tidy_proposals = tidy_proposals;
  tidied_files = tidied_files;
  tidied_verdicts = tidied_verdicts;
  salvaged_sheets = salvaged_sheets;
  index_written = index_written;
  indexed_verdicts = indexed_verdicts;
  name_matters_lem = name_matters_lem;
  matters_examples = matters_examples;
}
