mod Numbers
mod Plain
