-- The eleven examples hold, and those of document 02: each is computed from the definitions.
-- Assumes nothing.
use mathlib.Core.Bool.{true}
use mathlib.Core.List.{flat_map}
use mathlib.Core.Path.{◌≡◌, refl}
use Rattle.text.specs.Basics as Basics
use Rattle.text.specs.Text as Text
use Rattle.text.specs.Number as Number
use Rattle.section.specs.Refusal as Refusal
use Rattle.address.specs.Address as Address
use Rattle.address.specs.Mapped as Mapped
use Rattle.lines.specs.Line as Line
use Rattle.lines.specs.Rule as Rule
use Rattle.lines.specs.Command as Command
use Rattle.elements.specs.Request as Request
use Rattle.patterns.specs.Pattern as Pattern
use Rattle.tables.specs.Table as Table
use Rattle.elements.specs.Element as Element
use Rattle.lists.specs.Check as ListCheck
use Rattle.lists.specs.Walk as Walk
use Rattle.rules.specs.Check as Check
use Rattle.rules.specs.Search as Search
use Rattle.tables.specs.Tried as Tried
use Rattle.lists.specs.Looked as ListLooked
use Rattle.rules.specs.Looked as Looked
use Rattle.expansion.specs.Expand as Expand
use Rattle.byuid.specs.Byuid as Byuid
use Rattle.portacl.specs.Portacl as Portacl
use Rattle.sheet.specs.Sheet as Sheet
use Rattle.station.specs.Station as Station
use Rattle.matters.specs.Matters as Matters
use Rattle.claims.specs.Examples.{Examples}
use Rattle.claims.specs.MaskExamples.{MaskExamples}
use Rattle.claims.specs.MappedExamples.{MappedExamples}
use Rattle.claims.specs.LookedExamples.{LookedExamples}
use Rattle.claims.specs.MattersExamples.{MattersExamples}
use Rattle.claims.specs.TableExamples.{TableExamples, entries_of, five, many_entries, many}

pub examples : Examples
unfolding
    Basics.any Basics.all Basics.first Basics.each
    Text.equal Text.split_once Text.split Text.intercalate Text.lower Text.equal_fold
    Number.from_digits Number.to_digits Number.numeral Number.read_decimal
    Refusal.lowest
    Address.same_prefix Address.read_v4 Address.read_group Address.read_last_group Address.read_groups Address.read_compressed Address.read_v6
    Address.compress Address.addr_text Address.read_address Address.write_address
    Line.join Line.logical_lines Line.lines Line.has_bad_byte
    Rule.split_separator Rule.non_empty Rule.elements Rule.parse_rule
    Command.skip_blanks Command.trimmed Command.pieces Command.has_bad_percent
    Request.well_formed
    Pattern.wildcard Pattern.is_name_byte Pattern.domain_pattern Pattern.bracket_pattern Pattern.leading_fields Pattern.read_mask Pattern.net_mask
    Pattern.dotted_pattern
    Pattern.name_pattern Pattern.host_pattern
    Element.halves Element.client_reserved Element.daemon_reserved Element.named_table Element.is_plain_name Element.daemon_name Element.user_half Element.daemon_parts
    Element.client_parts
    Element.daemon_element Element.client_element
    ListCheck.without_except ListCheck.except_misplaced ListCheck.rule_fault ListCheck.rule_names Walk.included Walk.excluded Walk.rule_found_by
    Check.line_fault_by Check.hosts_fault Check.line_names Check.naming_fault Check.tables_fault Search.line_answer Search.search Search.decide
    Table.read_tables Table.read_each Table.read_table Table.after_count Table.tables_frame Table.is_table_name Table.table_name Table.table_named Table.patterns
    Table.pattern_with Table.in_table Table.leads_past Table.first_table Table.is_misnamed Table.table_name_fault Table.is_bad_pattern Table.is_unsound
    Table.bad_table_fault
    Expand.inserted Expand.safe_byte Expand.piece_text Expand.expansion Expand.expand
    Byuid.read_range Byuid.read_net Byuid.read_comma_form Byuid.read_colon_form Byuid.line_grants Byuid.is_retired Byuid.retired_fault Byuid.byuid_fault
    Byuid.byuid_decision Byuid.decide_byuid
    Portacl.read_entry Portacl.entries Portacl.entry_fault Portacl.portacl_fault Portacl.portacl_decision Portacl.decide_portacl
    Sheet.texts_fault Sheet.section_at Sheet.frame Sheet.unpack
    flat_map
examples = record {
  p1 = λ r e. rw e;
  p2 = λ r e. rw e;
  p3_yes = refl;
  p3_no = refl;
  p4_yes = refl;
  p4_no = refl;
  p5_yes = refl;
  p5_no = refl;
  p6_yes = refl;
  p6_no = refl;
  p7_no = refl;
  p7_yes = refl;
  p8 = refl;
  p9 = refl;
  p10 = refl;
  p11_accepted = refl;
  p11_short = refl;
  p11_long = refl;
}

-- Document 02, request 2
pub mask_lengths : MaskExamples
unfolding
    Basics.any Basics.all Basics.first Basics.each
    Text.equal Text.split_once Text.split Text.intercalate Text.lower Text.equal_fold
    Number.from_digits Number.to_digits Number.numeral Number.read_decimal
    Refusal.lowest
    Address.same_prefix Address.read_v4 Address.read_group Address.read_last_group Address.read_groups Address.read_compressed Address.read_v6
    Address.compress Address.addr_text Address.read_address Address.write_address
    Line.join Line.logical_lines Line.lines Line.has_bad_byte
    Rule.split_separator Rule.non_empty Rule.elements Rule.parse_rule
    Command.skip_blanks Command.trimmed Command.pieces Command.has_bad_percent
    Request.well_formed
    Pattern.wildcard Pattern.is_name_byte Pattern.domain_pattern Pattern.bracket_pattern Pattern.leading_fields Pattern.read_mask Pattern.net_mask
    Pattern.dotted_pattern
    Pattern.name_pattern Pattern.host_pattern
    Element.halves Element.client_reserved Element.daemon_reserved Element.named_table Element.is_plain_name Element.daemon_name Element.user_half Element.daemon_parts
    Element.client_parts
    Element.daemon_element Element.client_element
    ListCheck.without_except ListCheck.except_misplaced ListCheck.rule_fault ListCheck.rule_names Walk.included Walk.excluded Walk.rule_found_by
    Check.line_fault_by Check.hosts_fault Check.line_names Check.naming_fault Check.tables_fault Search.line_answer Search.search Search.decide
    Table.read_tables Table.read_each Table.read_table Table.after_count Table.tables_frame Table.is_table_name Table.table_name Table.table_named Table.patterns
    Table.pattern_with Table.in_table Table.leads_past Table.first_table Table.is_misnamed Table.table_name_fault Table.is_bad_pattern Table.is_unsound
    Table.bad_table_fault
    Expand.inserted Expand.safe_byte Expand.piece_text Expand.expansion Expand.expand
    Byuid.read_range Byuid.read_net Byuid.read_comma_form Byuid.read_colon_form Byuid.line_grants Byuid.is_retired Byuid.retired_fault Byuid.byuid_fault
    Byuid.byuid_decision Byuid.decide_byuid
    Portacl.read_entry Portacl.entries Portacl.entry_fault Portacl.portacl_fault Portacl.portacl_decision Portacl.decide_portacl
    Sheet.texts_fault Sheet.section_at Sheet.frame Sheet.unpack
    flat_map
mask_lengths = record {
  inside = refl;
  outside = refl;
  no_ones = refl;
  all_ones = refl;
  net_bits = refl;
  net_bits_of_none = refl;
  over = refl;
  more_digits = refl;
  fewer_fields = refl;
}

-- Document 02, request 7
pub mapped_addresses : MappedExamples
unfolding
    Basics.any Basics.all Basics.first Basics.each
    Text.equal Text.split_once Text.split Text.intercalate Text.lower Text.equal_fold
    Number.from_digits Number.to_digits Number.numeral Number.read_decimal
    Refusal.lowest
    Address.same_prefix Address.read_v4 Address.read_group Address.read_last_group Address.read_groups Address.read_compressed Address.read_v6
    Address.addr_text
    Mapped.is_mapped Mapped.unmapped
    Line.join Line.logical_lines Line.lines Line.has_bad_byte
    Rule.split_separator Rule.non_empty Rule.elements Rule.parse_rule
    Command.skip_blanks Command.trimmed Command.pieces Command.has_bad_percent
    Request.well_formed
    Pattern.wildcard Pattern.is_name_byte Pattern.domain_pattern Pattern.bracket_pattern Pattern.leading_fields Pattern.read_mask Pattern.net_mask
    Pattern.dotted_pattern
    Pattern.name_pattern Pattern.host_pattern
    Element.halves Element.client_reserved Element.daemon_reserved Element.named_table Element.is_plain_name Element.daemon_name Element.user_half Element.daemon_parts
    Element.client_parts
    Element.daemon_element Element.client_element
    ListCheck.without_except ListCheck.except_misplaced ListCheck.rule_fault ListCheck.rule_names Walk.included Walk.excluded Walk.rule_found_by
    Check.line_fault_by Check.hosts_fault Check.line_names Check.naming_fault Check.tables_fault Search.line_answer Search.search Search.decide
    Table.read_tables Table.read_each Table.read_table Table.after_count Table.tables_frame Table.is_table_name Table.table_name Table.table_named Table.patterns
    Table.pattern_with Table.in_table Table.leads_past Table.first_table Table.is_misnamed Table.table_name_fault Table.is_bad_pattern Table.is_unsound
    Table.bad_table_fault
    Expand.inserted Expand.safe_byte Expand.piece_text Expand.expansion Expand.expand
    Byuid.read_range Byuid.read_net Byuid.read_comma_form Byuid.read_colon_form Byuid.line_grants Byuid.is_retired Byuid.retired_fault Byuid.byuid_fault
    Byuid.byuid_decision Byuid.decide_byuid
    flat_map
mapped_addresses = record {
  dotted = refl;
  bracketed = refl;
  server_dotted = refl;
  bits_79 = refl;
  no_ones = refl;
  all_zero = refl;
  written = refl;
  byuid_dotted = refl;
  byuid_given = refl;
}

-- Document 02, request 1
pub table_examples : TableExamples
unfolding
    Basics.any Basics.all Basics.first Basics.each
    Text.equal Text.split_once Text.split Text.intercalate Text.lower Text.equal_fold
    Number.from_digits Number.to_digits Number.numeral Number.read_decimal
    Refusal.lowest
    Address.same_prefix Address.read_v4 Address.read_group Address.read_last_group Address.read_groups Address.read_compressed Address.read_v6
    Address.compress Address.addr_text Address.read_address Address.write_address
    Line.join Line.logical_lines Line.lines Line.has_bad_byte
    Rule.split_separator Rule.non_empty Rule.elements Rule.parse_rule
    Command.skip_blanks Command.trimmed Command.pieces Command.has_bad_percent
    Request.well_formed
    Pattern.wildcard Pattern.is_name_byte Pattern.domain_pattern Pattern.bracket_pattern Pattern.leading_fields Pattern.read_mask Pattern.net_mask
    Pattern.dotted_pattern
    Pattern.name_pattern Pattern.host_pattern
    Element.halves Element.client_reserved Element.daemon_reserved Element.named_table Element.is_plain_name Element.daemon_name Element.user_half Element.daemon_parts
    Element.client_parts
    Element.daemon_element Element.client_element
    ListCheck.without_except ListCheck.except_misplaced ListCheck.rule_fault ListCheck.rule_names Walk.included Walk.excluded Walk.rule_found_by
    Check.line_fault_by Check.hosts_fault Check.line_names Check.naming_fault Check.tables_fault Search.line_answer Search.search Search.decide
    Table.read_tables Table.read_each Table.read_table Table.after_count Table.tables_frame Table.is_table_name Table.table_name Table.table_named Table.patterns
    Table.pattern_with Table.in_table Table.leads_past Table.first_table Table.is_misnamed Table.table_name_fault Table.is_bad_pattern Table.is_unsound
    Table.bad_table_fault
    Expand.inserted Expand.safe_byte Expand.piece_text Expand.expansion Expand.expand
    Byuid.read_range Byuid.read_net Byuid.read_comma_form Byuid.read_colon_form Byuid.line_grants Byuid.is_retired Byuid.retired_fault Byuid.byuid_fault
    Byuid.byuid_decision Byuid.decide_byuid
    Portacl.read_entry Portacl.entries Portacl.entry_fault Portacl.portacl_fault Portacl.portacl_decision Portacl.decide_portacl
    Sheet.texts_fault Sheet.section_at Sheet.frame Sheet.unpack
    flat_map
    Mapped.is_mapped Mapped.unmapped Sheet.sheet_of Sheet.pack Station.decide_sheet entries_of five many_entries many
table_examples = record {
  four_deep_lem = refl;
  four_deep_other = refl;
  five_deep = refl;
  ring = refl;
  ring_unreached = refl;
  missing = refl;
  missing_in_table = refl;
  twice = refl;
  missing_first = refl;
  without_tables = refl;
  daemon_slash = refl;
  daemon_table = refl;
  netgroup = refl;
  no_name = refl;
  slash_before_at = refl;
  asks = refl;
  asks_not = refl;
  bad_except = refl;
  bad_comma = refl;
  bad_user = refl;
  bad_name = refl;
  most_tables = refl;
  too_many = refl;
  after_last = refl;
  cut = refl;
}

pub looked_examples : LookedExamples
unfolding
    Basics.any Basics.all Basics.first Basics.each
    Text.equal Text.split_once Text.split Text.intercalate Text.lower Text.equal_fold
    Number.from_digits Number.to_digits Number.numeral Number.read_decimal
    Refusal.lowest
    Address.same_prefix Address.read_v4 Address.read_group Address.read_last_group Address.read_groups Address.read_compressed Address.read_v6
    Address.compress Address.addr_text Address.read_address Address.write_address
    Line.join Line.logical_lines Line.lines Line.has_bad_byte
    Rule.split_separator Rule.non_empty Rule.elements Rule.parse_rule
    Command.skip_blanks Command.trimmed Command.pieces Command.has_bad_percent
    Request.well_formed
    Pattern.wildcard Pattern.is_name_byte Pattern.domain_pattern Pattern.bracket_pattern Pattern.leading_fields Pattern.read_mask Pattern.net_mask
    Pattern.dotted_pattern
    Pattern.name_pattern Pattern.host_pattern
    Element.halves Element.client_reserved Element.daemon_reserved Element.named_table Element.is_plain_name Element.daemon_name Element.user_half Element.daemon_parts
    Element.client_parts
    Element.daemon_element Element.client_element
    ListCheck.without_except ListCheck.except_misplaced ListCheck.rule_fault ListCheck.rule_names Walk.included Walk.excluded Walk.rule_found_by
    Check.line_fault_by Check.hosts_fault Check.line_names Check.naming_fault Check.tables_fault Search.line_answer Search.search Search.decide
    Table.read_tables Table.read_each Table.read_table Table.after_count Table.tables_frame Table.is_table_name Table.table_name Table.table_named Table.patterns
    Table.pattern_with Table.in_table Table.leads_past Table.first_table Table.is_misnamed Table.table_name_fault Table.is_bad_pattern Table.is_unsound
    Table.bad_table_fault
    Expand.inserted Expand.safe_byte Expand.piece_text Expand.expansion Expand.expand
    Byuid.read_range Byuid.read_net Byuid.read_comma_form Byuid.read_colon_form Byuid.line_grants Byuid.is_retired Byuid.retired_fault Byuid.byuid_fault
    Byuid.byuid_decision Byuid.decide_byuid
    Portacl.read_entry Portacl.entries Portacl.entry_fault Portacl.portacl_fault Portacl.portacl_decision Portacl.decide_portacl
    Sheet.texts_fault Sheet.section_at Sheet.frame Sheet.unpack
    Basics.sum Basics.sum_until Tried.tried_in Tried.capped Element.element_looked ListLooked.looked_included ListLooked.looked_excluded ListLooked.rule_looked_by
    ListLooked.rule_elements Looked.line_count Looked.file_looked Looked.looked Looked.looked_over Looked.file_elements Station.looked_sheet
    flat_map
    Mapped.is_mapped Mapped.unmapped Sheet.sheet_of Sheet.pack Station.decide_sheet entries_of five many_entries many
looked_examples = record {
  no_rules = refl;
  one_rule = refl;
  failing_daemons = refl;
  with_except = refl;
  left_missed = refl;
  until_match = refl;
  allow_decides = refl;
  asking_counted = refl;
  known_user_lem = refl;
  other_user = refl;
  tried_in_table = refl;
  tried_four_deep = refl;
  tried_for_daemon = refl;
  tried_for_user = refl;
  tried_twice = refl;
  none_at_refusal = refl;
  elements_of_file = refl;
}

pub matters_examples : MattersExamples
unfolding
    Basics.any Basics.all Basics.first Basics.each
    Text.equal Text.split_once Text.split Text.intercalate Text.lower Text.equal_fold
    Number.from_digits Number.to_digits Number.numeral Number.read_decimal
    Refusal.lowest
    Address.same_prefix Address.read_v4 Address.read_group Address.read_last_group Address.read_groups Address.read_compressed Address.read_v6
    Address.compress Address.addr_text Address.read_address Address.write_address
    Line.join Line.logical_lines Line.lines Line.has_bad_byte
    Rule.split_separator Rule.non_empty Rule.elements Rule.parse_rule
    Command.skip_blanks Command.trimmed Command.pieces Command.has_bad_percent
    Request.well_formed
    Pattern.wildcard Pattern.is_name_byte Pattern.domain_pattern Pattern.bracket_pattern Pattern.leading_fields Pattern.read_mask Pattern.net_mask
    Pattern.dotted_pattern
    Pattern.name_pattern Pattern.host_pattern
    Element.halves Element.client_reserved Element.daemon_reserved Element.named_table Element.is_plain_name Element.daemon_name Element.user_half Element.daemon_parts
    Element.client_parts
    Element.daemon_element Element.client_element
    ListCheck.without_except ListCheck.except_misplaced ListCheck.rule_fault ListCheck.rule_names Walk.included Walk.excluded Walk.rule_found_by
    Check.line_fault_by Check.hosts_fault Check.line_names Check.naming_fault Check.tables_fault Search.line_answer Search.search Search.decide
    Table.read_tables Table.read_each Table.read_table Table.after_count Table.tables_frame Table.is_table_name Table.table_name Table.table_named Table.patterns
    Table.pattern_with Table.in_table Table.leads_past Table.first_table Table.is_misnamed Table.table_name_fault Table.is_bad_pattern Table.is_unsound
    Table.bad_table_fault
    Expand.inserted Expand.safe_byte Expand.piece_text Expand.expansion Expand.expand
    Byuid.read_range Byuid.read_net Byuid.read_comma_form Byuid.read_colon_form Byuid.line_grants Byuid.is_retired Byuid.retired_fault Byuid.byuid_fault
    Byuid.byuid_decision Byuid.decide_byuid
    Portacl.read_entry Portacl.entries Portacl.entry_fault Portacl.portacl_fault Portacl.portacl_decision Portacl.decide_portacl
    Sheet.texts_fault Sheet.section_at Sheet.frame Sheet.unpack
    Matters.name_finds Matters.asker_holds Matters.asked_told Matters.rule_told Matters.line_told Matters.text_told Matters.settled Matters.name_matters_sheet
    flat_map
    Mapped.is_mapped Mapped.unmapped Sheet.sheet_of Sheet.pack Station.decide_sheet entries_of five many_entries many
matters_examples = record {
  one_name = refl;
  unasked = refl;
  other_host = refl;
  every_user = refl;
  named_or_not = refl;
  known_alone = refl;
  known_or_unknown = refl;
  taken_out_again = refl;
  other_taken_out = refl;
  other_line = refl;
  no_rule = refl;
  in_a_table = refl;
  fault = refl;
}
