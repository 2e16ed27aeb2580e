mod MeasureLemmas
mod DecimalLemmas
mod PointLemmas
mod SizeLemmas
mod TwiceLemmas
mod SizedLemmas
