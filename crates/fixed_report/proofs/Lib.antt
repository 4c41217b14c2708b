mod ReportLemmas
mod SumLemmas
mod MeanLemmas
mod TextLemmas
