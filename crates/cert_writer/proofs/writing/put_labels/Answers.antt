use Rattle.std.proofs.Common.{arith, sym}
use Rattle.std.proofs.lemmas.Option.{get_or_from_slice_get}
use Rattle.std.proofs.lemmas.Result.{err_from_is_err_and}
use Rattle.front_cert.specs.Listing.{line_of}
use Rattle.answer_writer.proofs.GathersLemmas.{all_held, more_held, cut_at}
use Rattle.cert_writer.specs.Text.{label_line}
use Rattle.cert_writer.proofs.writing.put_labels.Goals as goal

pub loop-i-preserved : goal.loop-i-preserved
loop-i-preserved g c =
    let labels = c.args.listing.now.cert.labels in let l = line_of c.label.result in
    more_held label_line labels c.loop-i.i l l (omega arith) (sym (get_or_from_slice_get labels c.loop-i.i l l c.label.ensures)) _ _ _ c.args.page.now c.loop-i.page
    c.loop-i.invariant c.put_label.new.page c.in_ok-put_label.ensures

pub returns-in_err-put_label : goal.returns-in_err-put_label
returns-in_err-put_label g c =
    let p = err_from_is_err_and c.from_residual.result c.from_residual.ensures.1 in
    let labels = c.args.listing.now.cert.labels in let l = line_of c.label.result in
    rw (p.1, p.2) (cut_at label_line labels c.loop-i.i l l (omega arith) (sym (get_or_from_slice_get labels c.loop-i.i l l c.label.ensures)) _ _ _ c.args.page.now c.loop-i.page
    c.loop-i.invariant _ c.in_err-put_label.ensures)

pub returns : goal.returns
returns g c = all_held label_line c.args.listing.now.cert.labels _ _ c.args.page.now c.loop-i.i c.loop-i.page (omega arith) c.loop-i.invariant
