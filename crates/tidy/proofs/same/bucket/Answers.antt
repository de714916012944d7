-- `tidy::same::bucket` meets its contract: the fingerprint of both lists. Assumes nothing.
use borrow.Author.Rules.{rules}
use Rattle.tidy.proofs.ListLaws.{bucket_is}
use Rattle.tidy.proofs.same.bucket.Goals as goal

pub returns : goal.returns
returns c = record { number = search (bucket_is, rules); small = search rules }
